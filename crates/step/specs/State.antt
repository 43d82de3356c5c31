-- What the walk of a tree keeps, and a step of it.
-- Assumes nothing.
use Rattle.std.specs.Prelude.{Bool, false, List, [], ◌∷◌, ℕ, ◌+◌, eqb, ltb, get_or, set, Result, Ok, Err}
use Rattle.image.specs.Bit.{bit_of}
use Rattle.image.specs.Set.{with_bit}
use Rattle.btree.specs.declared.Verdict.{Verdict}
use Rattle.btree.specs.declared.fault.Fault.{Fault}
use Rattle.btree.specs.Decide.{if_zero}
use Rattle.btree.specs.Faults.{fault_verdict}
use Rattle.btree.specs.Tree.{View}
use Rattle.btree.specs.Walk.{Entry, first_or, test}
use Rattle.frame.specs.declared.form.Form.{Form}
use Rattle.btree.specs.Tells.{pick}
use Rattle.order.specs.Bound.{bound}
use Rattle.step.specs.declared.pointer.Pointer.{Pointer}
use Rattle.step.specs.declared.state.Walk.{Walk}

-- a node as the code comes to it: the keys that point at it and bound its own are given by their places
abbrev pub entry : Form → List ℕ → Pointer → Entry
entry form img e = record { node = e.node; from = e.from; level = e.level; low = bound form img e.low; high = bound form img e.high }

-- how a walk stands, with the bits of the nodes met, and of the header and the map chain: it goes on with what it keeps beside them, or stopped at a fault with what it kept until then
pub data State : Type 0 where
  going : List ℕ → Walk → State
  stopped : List ℕ → Walk → Verdict → State

-- the same, as the code has it
abbrev pub state_of : List ℕ → Walk → Result (Unit {0}) Fault → State
state_of bits w (Ok u) = going bits w
state_of bits w (Err f) = stopped bits w (fault_verdict f)

-- test 4: the bits set are those of the header, the map chain and the nodes met
unfoldable pub fresh_in : ℕ → List ℕ → ℕ → Bool
fresh_in total bits n = pick (ltb n total) (eqb (bit_of bits n) 0) false

-- the first leaf met, 0 for none
unfoldable pub first_with : Bool → ℕ → ℕ → ℕ
first_with leaf first n = pick leaf (first_or first n) first

-- a node that passed: c are its records, counted for a leaf
unfoldable pub kept : Walk → ℕ → ℕ → Bool → ℕ → Walk
kept w n d leaf c =
    record {
      last = set w.last d n;
      records = w.records + pick leaf c 0;
      first = first_with leaf w.first n;
      nodes = w.nodes + 1;
    }

-- after the tests at an entry
unfoldable pub landed : View → List ℕ → Walk → Entry → Verdict → State
landed v bits w e t =
    if_zero t.number
    (going (with_bit bits e.node) (kept w e.node e.level (eqb (e.level + 1) v.depth) (v.count e.node)))
    (stopped bits w t)

abbrev pub last_at : Walk → ℕ → ℕ
last_at w d = get_or w.last d 0

-- the tests at an entry, and what is kept of it; a walk that stopped stays
unfoldable pub step : View → State → Entry → State
step v (going bits w) e = landed v bits w e (test v (fresh_in v.total bits e.node) (last_at w e.level) e)
step v (stopped bits w t) e = stopped bits w t

-- a step at each entry, one after another
unfoldable pub steps : View → State → List Entry → State
steps v s [] = s
steps v s (e ∷ es) = steps v (step v s e) es
