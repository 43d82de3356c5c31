-- The numbers of a fresh tree.
-- Assumes nothing.
use Rattle.std.specs.Prelude.{◌≡◌, ℕ}
use Rattle.shape.specs.Shape.{start, levels}
use Rattle.laid.specs.Laid.{root_for}
use Rattle.tree_writer.specs.declared.plan.Plan.{Plan}

-- those of the tree of r records after m map nodes
pub record PlanOf (m r : ℕ) (p : Plan) : Type 0 where
  pub is_depth : p.depth ≡ levels r
  pub is_root : p.root ≡ root_for m r (levels r)
  pub is_used : p.used ≡ start m r (levels r)
