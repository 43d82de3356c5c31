-- When a leaf is whole by itself, whether a tree leads to it or not.
-- Assumes nothing.
use Rattle.std.proofs.Math.Logic.Dec
use Rattle.std.proofs.Math.Option.{Option}
use Rattle.std.specs.Prelude.{List, ℕ, suc, ◌-◌, ◌<◌}
use Rattle.std.proofs.Common.{arith}
use Rattle.std.proofs.Math.Decide.{dec_lt}
use Rattle.btree.specs.Decide.{map_dec, dec_imp, dec_all}
use Rattle.btree.specs.Tree.{View}
use Rattle.btree.specs.Walk.{Under}
use Rattle.frame.specs.declared.form.Form.{Form}
use Rattle.frame.specs.Kinds.{leaf_kind}
use Rattle.formats.specs.Format.{Records, dec_records, view}

-- a node's "keys strictly ascend"
abbrev pub Ascends : View → ℕ → Type 0
Ascends v n = (i : ℕ) → suc i < v.count n → v.key n i < v.key n (suc i)

-- so do they, to one below the bound
pub record Rising (v : View) (hi : Option ℕ) (n : ℕ) : Type 0 where
  pub ascend : Ascends v n
  pub last : Under (v.key n (v.count n - 1)) hi

-- "a node counts if it is kind FF, passes the tests of 5 without the level, and its keys strictly ascend"
pub record WholeLeaf (form : Form) (img : List ℕ) (n : ℕ) : Type 0 where
  pub records : Records form img leaf_kind n
  pub ascend : Ascends (view form img) n

unfoldable pub dec_whole_leaf : (form : Form) (img : List ℕ) (n : ℕ) → Dec (WholeLeaf form img n)
dec_whole_leaf form img n =
    map_dec
    (λ (a, b). record { records = a; ascend = λ i u. b i (omega arith) u })
    (λ w. (w.records, λ i h. w.ascend i))
    (Dec.and (dec_records form img leaf_kind n)
    (dec_all (λ i. dec_imp (dec_lt (suc i) ((view form img).count n)) (dec_lt ((view form img).key n i) ((view form img).key n (suc i)))) ((view form img).count n)))
