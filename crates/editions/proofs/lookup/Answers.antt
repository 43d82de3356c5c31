-- `lookup` meets its contract. Assumes nothing.
use mathlib.Core.Path.{refl, sym, ap, ◌∙◌}
use mathlib.Core.List.Memᴰ
use native.Mathlib.Omega.{arith}
use Rattle.btree.specs.declared.Lookup.{Lookup}
use Rattle.btree.specs.declared.Verdict.{Verdict}
use Rattle.btree.specs.Faults.{fault_verdict}
use Rattle.btree.specs.Numbers.{lookup_reply}
use Rattle.btree.specs.Search.{refused}
use Rattle.btree.proofs.Work.{left-untouched, leaves}
use Rattle.frame.specs.Form.{form_of, layout_of}
use Rattle.frame.proofs.Forms.{fair}
use Rattle.formats.specs.Format.{format_of}
use Rattle.extent_keys.specs.Key.{asked}
use Rattle.image.proofs.Words.{Bytes}
use Rattle.extent_keys.proofs.Order.{InRange}
use Rattle.reader.proofs.Demands.{lookup-says, never-25}
use Rattle.editions.specs.Asked.{of_key}
use Rattle.editions.proofs.Asked.{means, asked-lookup}
use Rattle.editions.proofs.Editions.{lookup-listed, lookup-unlisted, says-lookup, refuses-lookup}
use Rattle.editions.proofs.lookup.Goals as goal
use Rattle.editions.proofs.lookup.Goals.{After-shared_slice_known-1, Start}

abbrev refuse : Verdict → Lookup
refuse v = refused v.number v.place

bytes : (c : After-shared_slice_known-1) → Bytes c.args.image.now
bytes c i = omega (arith, c.shared_slice_known-1.given i)

key-in_range : (c : Start) → InRange (asked c.args.file c.args.fork c.args.start)
key-in_range c = record { fork = omega arith; start = omega arith }

pub returns-in-None : goal.returns-in-None
returns-in-None c =
    let a = c.args in
    let f = form_of a.edition a.size in
    let u = c.in-None.ensures in
    let e = c.refusal.ensures ∙ ap refuse (c.verdict.ensures ∙ ap fault_verdict c.at_node.ensures) in record {
      equal = e ∙ sym (lookup-unlisted f a.image.now u _ _);
      says = refuses-lookup f a.image.now u _ _ _ e;
      leaves = rw e (leaves (layout_of f) _ (format_of f) 25 _ _ (sym (left-untouched (layout_of f) _ (format_of f) 25 _ (Memᴰ.head refl))));
    }

pub lookup-requires : goal.lookup-requires
lookup-requires c = rw c.in-Some.ensures.1 (fair _ c.in-Some.ensures.0)

pub returns-in-Some : goal.returns-in-Some
returns-in-Some c =
    let a = c.args in
    let f = form_of a.edition a.size in
    let b = bytes (goal.at.returns-in-Some c).After-shared_slice_known-1 in
    let l = c.in-Some.ensures.0 in
    let q = asked a.file a.fork a.start in
    let e = (rw c.in-Some.ensures.1 at c.lookup.ensures.equal) ∙ asked-lookup a.edition a.size a.image.now q _ _ c.is_lawful-lawful.ensures c.sort_key-key.ensures _ in
    let never = never-25 f (fair f l) a.image.now (of_key f q) _ in record {
      equal = e ∙ sym (lookup-listed f a.image.now l _ _);
      says = says-lookup f a.image.now l b q (key-in_range (goal.at.returns-in-Some c).Start) _ _ (λ z. never (ap (λ (l : Lookup). (lookup_reply l.answer).number) (sym e) ∙ z))
          (rw e (lookup-says f (fair f l) a.image.now (of_key f q) _ (means a.edition a.size a.image.now q b (key-in_range (goal.at.returns-in-Some c).Start))));
      leaves = rw c.in-Some.ensures.1 at c.lookup.ensures.leaves;
    }
