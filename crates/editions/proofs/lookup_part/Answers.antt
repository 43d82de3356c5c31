-- `lookup_part` meets its contract. Assumes nothing.
use mathlib.Core.Path.{refl, sym}
use mathlib.Core.List.Memᴰ
use lib.ListN.{length}
use Rattle.btree.proofs.Work.{left-untouched, leaves}
use Rattle.frame.specs.Form.{form_of, layout_of}
use Rattle.frame.proofs.Forms.{fair}
use Rattle.formats.specs.Format.{format_of}
use Rattle.extent_keys.specs.Key.{asked}
use Rattle.editions.proofs.Asked.{asked-lookup}
use Rattle.editions.proofs.Editions.{lookup-listed, lookup-unlisted}
use Rattle.editions.proofs.lookup_part.Goals as goal

pub returns-in-None : goal.returns-in-None
returns-in-None c =
    let a = c.args in
    let f = form_of a.edition a.size in
    let u = c.in-None.ensures in record {
      part = rw (lookup-unlisted f a.image.now u _ _) c.no_part-in-None.ensures;
      leaves = rw (lookup-unlisted f a.image.now u _ _) (leaves (layout_of f) _ (format_of f) 25 _ _ (sym (left-untouched (layout_of f) _ (format_of f) 25 _ (Memᴰ.head refl))));
    }

pub lookup_part-requires : goal.lookup_part-requires
lookup_part-requires c = rw c.in-Some.ensures.1 (fair _ c.in-Some.ensures.0)

pub returns-in-Some : goal.returns-in-Some
returns-in-Some c =
    let a = c.args in
    let f = form_of a.edition a.size in
    let l = c.in-Some.ensures in
    let q = asked a.file a.fork a.start in
    let e = asked-lookup a.edition a.size a.image.now q _ _ c.is_lawful-lawful.ensures c.sort_key-key.ensures (length a.work.now) in record {
      part = rw (lookup-listed f a.image.now l.0 q (length a.work.now), ← e) (rw l.1 at c.lookup_part.ensures.part);
      leaves = rw (lookup-listed f a.image.now l.0 q (length a.work.now), ← e) (rw l.1 at c.lookup_part.ensures.leaves);
    }
