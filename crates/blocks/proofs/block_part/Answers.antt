-- `block_part` meets its contract. Assumes nothing.
use mathlib.Core.Path.{◌≡◌, sym, subst, ◌∙◌}
use mathlib.Core.List.{List}
use Prim.Native.Nat.{ℕ, ◌+◌, ◌≤◌}
use Rattle.std.specs.Borrow.{Bor}
use lib.ListN.{length}
use Rattle.catalog_keys.specs.Key.{asked}
use Rattle.coverings.specs.declared.answers.Source.{Source}
use Rattle.coverings.specs.declared.answers.Source.TheVariants.{Catalog, Extents}
use Rattle.coverings.specs.declared.answers.Mapping.{Mapping}
use Rattle.blocks.specs.Blocks.{block_of}
use Rattle.blocks.specs.Demands.{PartIn, PartOf, image_of}
use Rattle.blocks.proofs.block_part.Goals as goal
use Rattle.blocks.proofs.block_part.Goals.{After-block, In-Mapped}

-- a part that fits what is answered fits the definition
part : (c : After-block) (r : Bor (List ℕ)) (m : Mapping) → c.block.result ≡ m → let a = c.args in
    PartOf a.catalog a.extents r m
    → PartOf a.catalog a.extents r (block_of a.catalog.now a.extents.now (length a.catalog_work.now) (length a.extents_work.now) (asked a.parent a.name.now) a.fork a.file_block)
part c r m e p = let a = c.args in subst (λ (x : Mapping). PartOf a.catalog a.extents r x) (sym e ∙ c.block.ensures.equal) p

-- the image that the covering record's source names has its bytes
inside : (c : In-Mapped) (s : Source) → c.in-Mapped.covering.source ≡ s → let a = c.args in
    c.in-Mapped.covering.start + 12 ≤ length (image_of a.catalog.now a.extents.now s)
inside c s e =
    let a = c.args in
    subst (λ (x : Source). c.in-Mapped.covering.start + 12 ≤ length (image_of a.catalog.now a.extents.now x)) e (c.block.ensures.says.inside _ _ c.in-Mapped.is)

pub part_at-requires : goal.part_at-requires
part_at-requires c = inside (goal.at.part_at-requires c).In-Mapped Catalog c.in-Catalog.is

pub part_at-requires-in-Extents : goal.part_at-requires-in-Extents
part_at-requires-in-Extents c = inside (goal.at.part_at-requires-in-Extents c).In-Mapped Extents c.in-Extents.is

pub returns-in-Catalog : goal.returns-in-Catalog
returns-in-Catalog c =
    let a = c.args in
    let v = c.in-Mapped in record {
      part = part (goal.at.returns-in-Catalog c).After-block c.part_at.result _ v.is (subst (λ (s : Source). PartIn a.catalog a.extents c.part_at.result s v.covering.start) (sym c.in-Catalog.is) c.part_at.ensures);
      catalog_leaves = c.block.ensures.catalog_leaves;
      extents_leaves = c.block.ensures.extents_leaves;
    }

pub returns-in-Extents : goal.returns-in-Extents
returns-in-Extents c =
    let a = c.args in
    let v = c.in-Mapped in record {
      part = part (goal.at.returns-in-Extents c).After-block c.part_at-in-Extents.result _ v.is (subst (λ (s : Source). PartIn a.catalog a.extents c.part_at-in-Extents.result s v.covering.start) (sym c.in-Extents.is) c.part_at-in-Extents.ensures);
      catalog_leaves = c.block.ensures.catalog_leaves;
      extents_leaves = c.block.ensures.extents_leaves;
    }

pub returns-in-Refused : goal.returns-in-Refused
returns-in-Refused c =
    record {
      part = part (goal.at.returns-in-Refused c).After-block c.no_part.result _ c.in-Refused.is c.no_part.ensures;
      catalog_leaves = c.block.ensures.catalog_leaves;
      extents_leaves = c.block.ensures.extents_leaves;
    }
