-- `salvage` meets its contract. Assumes nothing.
use mathlib.Core.Path.{sym, ap, ◌∙◌}
use native.Mathlib.Omega.{arith}
use Rattle.frame.specs.Form.{form_of}
use Rattle.frame.proofs.Forms.{fair}
use Rattle.extent_keys.specs.Key.{asked}
use Rattle.image.proofs.Words.{Bytes}
use Rattle.extent_keys.proofs.Order.{InRange}
use Rattle.reader.specs.Reader.{unseen}
use Rattle.reader.proofs.Matches.{salvage-says, salvage-never}
use Rattle.editions.specs.Asked.{of_key}
use Rattle.editions.proofs.Asked.{means, asked-salvage}
use Rattle.editions.proofs.Editions.{salvage-listed, salvage-unlisted, says-salvage, refuses-salvage}
use Rattle.editions.proofs.salvage.Goals as goal
use Rattle.editions.proofs.salvage.Goals.{After-shared_slice_known-1, Start}

bytes : (c : After-shared_slice_known-1) → Bytes c.args.image.now
bytes c i = omega (arith, c.shared_slice_known-1.given i)

key-in_range : (c : Start) → InRange (asked c.args.file c.args.fork c.args.start)
key-in_range c = record { fork = omega arith; start = omega arith }

pub returns-in-None : goal.returns-in-None
returns-in-None c =
    let a = c.args in
    let f = form_of a.edition a.size in
    let u = c.in-None.ensures in
    let e = c.unseen.ensures ∙ ap unseen c.at_node.ensures ∙ sym (salvage-unlisted f a.image.now u _) in record {
      equal = e;
      says = refuses-salvage f a.image.now u _ _ (c.unseen.ensures ∙ ap unseen c.at_node.ensures);
    }

pub salvage-requires : goal.salvage-requires
salvage-requires c = rw c.in-Some.ensures.1 (fair _ c.in-Some.ensures.0)

pub returns-in-Some : goal.returns-in-Some
returns-in-Some c =
    let a = c.args in
    let f = form_of a.edition a.size in
    let b = bytes (goal.at.returns-in-Some c).After-shared_slice_known-1 in
    let l = c.in-Some.ensures.0 in
    let q = asked a.file a.fork a.start in
    let e = (rw c.in-Some.ensures.1 at c.salvage.ensures) ∙ asked-salvage a.edition a.size a.image.now q _ _ c.is_lawful-lawful.ensures c.sort_key-key.ensures in record {
      equal = e ∙ sym (salvage-listed f a.image.now l _);
      says = says-salvage f a.image.now l b q (key-in_range (goal.at.returns-in-Some c).Start) _ (λ z. salvage-never f a.image.now (of_key f q) 25 (omega arith) _ (sym e ∙ z))
          (rw e (salvage-says f a.image.now (of_key f q) (means a.edition a.size a.image.now q b (key-in_range (goal.at.returns-in-Some c).Start))));
    }
