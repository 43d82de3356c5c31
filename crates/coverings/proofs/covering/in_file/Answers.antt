-- `covering::in_file` meets its contract. Assumes nothing.
use mathlib.Core.Path.{◌≡◌, sym, ap, ◌∙◌}
use Prim.Native.Nat.{ℕ, ◌+◌}
use native.Mathlib.Omega.{arith}
use lib.ListN.{length}
use Rattle.extent_data.specs.declared.ExtentData.{ExtentData}
use Rattle.catalog.specs.Reader.{data_part}
use Rattle.coverings.specs.declared.answers.Source.TheVariants.{Catalog}
use Rattle.extent_data.specs.Pairs.{block_count, counted_off}
use Rattle.coverings.specs.Answers.{mapped_to}
use Rattle.coverings.specs.Covered.{first_extents, first_covering, after_extents}
use Rattle.coverings.proofs.Order.{file-first, file-later, first_small}
use Rattle.coverings.proofs.covering.in_file.Goals as goal
use Rattle.coverings.proofs.covering.in_file.Goals.{After-block_count}

counted : (c : After-block_count) → let a = c.args in c.block_count.result ≡ block_count (first_extents a.file a.fork)
counted c = c.block_count.ensures.0 ∙ ap block_count c.first_extents-first.ensures

pub returns-then-file_block-block_count : goal.returns-then-file_block-block_count
returns-then-file_block-block_count c =
    let e = counted (goal.at.returns-then-file_block-block_count c).After-block_count in record {
      equal = c.in_extents.ensures.equal ∙ sym (file-later _ _ _ _ _ _ _ (omega (arith, c.if-file_block-block_count.true, e)));
      leaves = c.in_extents.ensures.leaves;
    }

pub overflow_add-start : goal.overflow_add-start
overflow_add-start c = omega (arith, c.data_at.ensures.1, first_small c.args.fork, c.first_start.ensures)

pub returns : goal.returns
returns c =
    let a = c.args in
    let e = c.first_extents-first.ensures in
    let w =
    c.mapped_to-mapped.ensures
    ∙ ap (λ (at : ℕ). mapped_to (record { source = Catalog; place = a.place; start = at + c.first_start.result }) c.counted_off.result) c.data_at.ensures.0
    ∙ ap (λ (o : ℕ). mapped_to (record { source = Catalog; place = a.place; start = (data_part a.catalog.now a.place).at + o }) c.counted_off.result) c.first_start.ensures
    ∙ ap (mapped_to (first_covering a.catalog.now a.fork a.place)) (c.counted_off.ensures ∙ ap (λ (f : ExtentData). counted_off f a.file_block) e) in record {
      equal = c.after_check.ensures.equal ∙ ap (after_extents a.extents.now (length a.work.now)) w ∙ sym (file-first _ _ _ _ _ _ _ (omega (arith, c.if-file_block-block_count.false, counted (goal.at.returns c).After-block_count)));
      leaves = c.after_check.ensures.leaves;
    }
