-- `block` meets its contract. Assumes nothing.
use mathlib.Core.Path.{◌≡◌, refl, sym, ap, subst, ◌∙◌}
use mathlib.Core.Logic.{◌≢◌}
use Prim.Native.Nat.{ℕ}
use native.Mathlib.Omega.{arith}
use lib.ListN.{length}
use Rattle.btree.specs.declared.Place.{Place}
use Rattle.btree.proofs.Decisions.{said, unsaid}
use Rattle.extent_keys.specs.Key.{Lawful, dec_lawful}
use Rattle.image.proofs.Words.{Bytes}
use Rattle.catalog_keys.specs.Key.{Key, asked}
use Rattle.catalog.specs.declared.answers.Answer.{Answer}
use Rattle.catalog.specs.declared.answers.Answer.TheVariants as answer
use Rattle.catalog.specs.declared.answers.Lookup.{Lookup}
use Rattle.catalog.specs.Reader.{Leaves, looked_up, lookup_reply}
use Rattle.coverings.specs.declared.answers.Mapping.{Mapping}
use Rattle.blocks.specs.Blocks.{Asked, by_answer, block_of}
use Rattle.blocks.specs.Demands.{BlockSays}
use Rattle.blocks.specs.Work.{catalog_number}
use Rattle.blocks.proofs.Order.{block-unasked, block-lawful, number-unasked, number-sound, number-fault}
use Rattle.blocks.proofs.Left.{unasked-left, looked-left, extents-untouched, extents-left}
use Rattle.blocks.proofs.Images.{block-says}
use Rattle.btree.specs.Places.{image_start}
use Rattle.coverings.specs.declared.answers.Source.TheVariants.{Catalog}
use Rattle.coverings.specs.declared.answers.Mapping.TheVariants as mapping-kind
use Rattle.blocks.proofs.block.Goals as goal
use Rattle.blocks.proofs.block.Goals.{After-lookup-found, After-shared_slice_known-2-1, Else-not-is_lawful, Start, Then-not-is_lawful}

abbrev key_of : Start → Key
key_of s = asked s.args.parent s.args.name.now

abbrev mapping : Start → Mapping
mapping s = let a = s.args in block_of a.catalog.now a.extents.now (length a.catalog_work.now) (length a.extents_work.now) (key_of s) a.fork a.file_block

bytes : (c : After-shared_slice_known-2-1) → Bytes c.args.extents.now
bytes c i = omega (arith, c.shared_slice_known-2-1.given i)

-- what equals the definition says what is said of it
told : (c : After-shared_slice_known-2-1) (r : Mapping) → r ≡ mapping (goal.at.After-shared_slice_known-2-1 c).Start → let a = c.args in
    BlockSays a.catalog.now a.extents.now (key_of (goal.at.After-shared_slice_known-2-1 c).Start) a.fork a.file_block (length a.catalog_work.now) (length a.extents_work.now) r
told c r e =
    let a = c.args in
    subst (λ (x : Mapping). BlockSays a.catalog.now a.extents.now (key_of (goal.at.After-shared_slice_known-2-1 c).Start) a.fork a.file_block (length a.catalog_work.now) (length a.extents_work.now) x) (sym e)
    (block-says a.catalog.now a.extents.now (bytes c) (key_of (goal.at.After-shared_slice_known-2-1 c).Start) a.fork a.file_block (omega arith) (omega arith) _ _)

lawful : (c : Else-not-is_lawful) → Lawful c.args.fork
lawful c = said (dec_lawful _) (sym c.is_lawful.ensures ∙ c.if-not-is_lawful.false)

unlawful : (c : Then-not-is_lawful) → Asked (key_of (goal.at.Then-not-is_lawful c).Start) c.args.fork → ⊥
unlawful c a = unsaid (dec_lawful _) (sym c.is_lawful.ensures ∙ c.if-not-is_lawful.true) a.lawful

-- what the catalog's lookup answers, as the definition has it
looked : (c : After-lookup-found) (a : Answer) → c.lookup-found.result.answer ≡ a → (looked_up c.args.catalog.now (key_of (goal.at.After-lookup-found c).Start) (length c.args.catalog_work.now)).answer ≡ a
looked c a e = sym (ap (λ (l : Lookup). l.answer) c.lookup-found.ensures.equal) ∙ e

-- and what follows from it: the answer, and what is left in the catalog's bytes
answers : (c : After-lookup-found) (a : Answer) → c.lookup-found.result.answer ≡ a → let x = c.args in
    by_answer x.catalog.now x.extents.now (length x.extents_work.now) x.fork x.file_block a ≡ mapping (goal.at.After-lookup-found c).Start
answers c a e =
    let x = c.args in
    ap (by_answer x.catalog.now x.extents.now (length x.extents_work.now) x.fork x.file_block) (sym (looked c a e))
    ∙ block-lawful x.catalog.now x.extents.now _ _ (key_of (goal.at.After-lookup-found c).Start) x.fork x.file_block (lawful (goal.at.After-lookup-found c).Else-not-is_lawful)

leaves : (c : After-lookup-found) → let x = c.args in
    Leaves x.catalog.now (catalog_number x.catalog.now (length x.catalog_work.now) (key_of (goal.at.After-lookup-found c).Start) x.fork) x.catalog_work.now c.lookup-found.new.work
leaves c =
    let x = c.args in
    looked-left x.catalog.now (key_of (goal.at.After-lookup-found c).Start) x.fork _ _ _ (lawful (goal.at.After-lookup-found c).Else-not-is_lawful)
    (subst (λ (l : Lookup). Leaves x.catalog.now (lookup_reply l.answer).number x.catalog_work.now c.lookup-found.new.work) c.lookup-found.ensures.equal c.lookup-found.ensures.leaves)

number : (c : After-lookup-found) (a : Answer) → c.lookup-found.result.answer ≡ a → ((n : ℕ) (p : Place) → a ≢ answer.Refused n p) → catalog_number c.args.catalog.now (length c.args.catalog_work.now) (key_of (goal.at.After-lookup-found c).Start) c.args.fork ≡ 0
number c a e n =
    number-sound c.args.catalog.now _ (key_of (goal.at.After-lookup-found c).Start) c.args.fork (lawful (goal.at.After-lookup-found c).Else-not-is_lawful) (λ m p w. n m p (sym (looked c a e) ∙ w))

pub returns-then-not-is_lawful : goal.returns-then-not-is_lawful
returns-then-not-is_lawful c =
    let x = c.args in
    let n = unlawful (goal.at.returns-then-not-is_lawful c).Then-not-is_lawful in
    let e = ap (λ (k : ℕ). mapping-kind.Refused Catalog k image_start) c.number.ensures ∙ sym (block-unasked x.catalog.now x.extents.now (length x.catalog_work.now) (length x.extents_work.now) (key_of (goal.at.returns-then-not-is_lawful c).Start) x.fork x.file_block n) in
    let z = number-unasked x.catalog.now (length x.catalog_work.now) (key_of (goal.at.returns-then-not-is_lawful c).Start) x.fork n in record {
      equal = e;
      says = told (goal.at.returns-then-not-is_lawful c).After-shared_slice_known-2-1 _ e;
      catalog_leaves = unasked-left x.catalog.now (key_of (goal.at.returns-then-not-is_lawful c).Start) x.fork _ _ n;
      extents_leaves = extents-untouched _ _ _ _ (λ w. omega arith) refl;
    }

pub in_entry-requires : goal.in_entry-requires
in_entry-requires c = lawful (goal.at.in_entry-requires c).Else-not-is_lawful

pub returns-in-Found : goal.returns-in-Found
returns-in-Found c =
    let e = c.in_entry.ensures.equal ∙ answers (goal.at.returns-in-Found c).After-lookup-found _ c.in-Found.is in record {
      equal = e;
      says = told (goal.at.returns-in-Found c).After-shared_slice_known-2-1 _ e;
      catalog_leaves = leaves (goal.at.returns-in-Found c).After-lookup-found;
      extents_leaves = extents-left _ _ _ _ (number (goal.at.returns-in-Found c).After-lookup-found _ c.in-Found.is (λ m p w. let y : ◌≡◌ {A = ℕ} 0 1 = cc in omega arith)) c.in_entry.ensures.leaves;
    }

pub returns-in-Absent : goal.returns-in-Absent
returns-in-Absent c =
    let e = (rw c.number-in-Absent.ensures at c.after_check.ensures.equal) ∙ answers (goal.at.returns-in-Absent c).After-lookup-found _ c.in-Absent.is in record {
      equal = e;
      says = told (goal.at.returns-in-Absent c).After-shared_slice_known-2-1 _ e;
      catalog_leaves = leaves (goal.at.returns-in-Absent c).After-lookup-found;
      extents_leaves = extents-left _ _ _ _ (number (goal.at.returns-in-Absent c).After-lookup-found _ c.in-Absent.is (λ m p w. let y : ◌≡◌ {A = ℕ} 0 1 = cc in omega arith)) c.after_check.ensures.leaves;
    }

pub returns-in-Refused : goal.returns-in-Refused
returns-in-Refused c =
    let e = answers (goal.at.returns-in-Refused c).After-lookup-found _ c.in-Refused.is in record {
      equal = e;
      says = told (goal.at.returns-in-Refused c).After-shared_slice_known-2-1 _ e;
      catalog_leaves = leaves (goal.at.returns-in-Refused c).After-lookup-found;
      extents_leaves = extents-untouched _ _ _ _ (number-fault c.args.catalog.now _ (key_of (goal.at.returns-in-Refused c).Start) c.args.fork _ _ (looked (goal.at.returns-in-Refused c).After-lookup-found _ c.in-Refused.is)) refl;
    }
