-- `lookup_many` meets its contract. Assumes nothing.
use mathlib.Core.Path.{refl, sym, ap}
use mathlib.Core.List.Memᴰ
use native.Mathlib.Omega.{arith}
use Rattle.btree.specs.Faults.{fault_verdict}
use Rattle.std.proofs.lemmas.Result.{err_from_is_err_and}
use Rattle.btree.proofs.Faults.{some_number}
use Rattle.btree.proofs.Work.{left-untouched, leaves}
use Rattle.frame.specs.Form.{hfs, layout_of}
use Rattle.formats.specs.Format.{format_of}
use Rattle.image.proofs.Words.{Bytes}
use Rattle.extents.proofs.Many.{placeable, refuses-row, refuses-image, fills}
use Rattle.extents.proofs.lookup_many.Goals as goal
use Rattle.extents.proofs.lookup_many.Goals.{After-shared_slice_known-1}

bytes : (c : After-shared_slice_known-1) → Bytes c.args.image.now
bytes c i = omega (arith, c.shared_slice_known-1.given i)

pub returns-then-results-keys : goal.returns-then-results-keys
returns-then-results-keys c =
    let a = c.args in
    let p = refuses-row a.image.now (bytes (goal.at.returns-then-results-keys c).After-shared_slice_known-1) a.keys.now a.results.now _ _ a.work.now _ _
    (rw c.at_node.ensures (leaves (layout_of hfs) _ (format_of hfs) 15 _ _ (sym (left-untouched (layout_of hfs) _ (format_of hfs) 15 _ (Memᴰ.tail (Memᴰ.tail (Memᴰ.head refl)))))))
    c.if-results-keys.true (ap fault_verdict c.at_node.ensures) refl in record { equal = p.0; written = p.1.0; says = p.1.1.0; leaves = p.1.1.1 }

pub fill-requires : goal.fill-requires
fill-requires c =
    let o = c.if-results-keys.false in
    (placeable _ (c.in_ok-check.ensures.says.sound.0 refl).0, omega arith)

pub returns : goal.returns
returns c =
    let o = c.if-results-keys.false in
    let a = c.args in
    let p = fills a.image.now (bytes (goal.at.returns c).After-shared_slice_known-1) a.keys.now a.results.now _ _ a.work.now _ _ c.in_ok-check.ensures.leaves
    (omega arith) c.in_ok-check.ensures.equal refl c.fill.ensures in record { equal = p.0; written = p.1.0; says = p.1.1.0; leaves = p.1.1.1 }

pub returns-in_err-check : goal.returns-in_err-check
returns-in_err-check c =
    let o = c.if-results-keys.false in
    let a = c.args in
    let f = err_from_is_err_and c.from_residual.result c.from_residual.ensures.1 in
    let s = some_number c.in_err-check.field-0.0.refusal in
    let p = refuses-image a.image.now (bytes (goal.at.returns-in_err-check c).After-shared_slice_known-1) a.keys.now a.results.now _ _ a.work.now _ _ c.in_err-check.ensures.leaves
    (omega arith) c.in_err-check.ensures.equal (λ z. omega (arith, z, s)) refl in rw (f.1, f.2) (record { equal = p.0; written = p.1.0; says = p.1.1.0; leaves = p.1.1.1 })
