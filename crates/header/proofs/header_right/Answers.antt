-- `header_right` meets its contract: it is true exactly where the header node is right. Assumes nothing.
use Rattle.std.proofs.Common.{◌≡◌, arith}
use Rattle.btree.specs.Tests.{dec_descriptor, dec_no_tree, dec_header_node}
use Rattle.btree.specs.Header.{depth_of}
use Rattle.btree.specs.Image.{NoTree, HeaderNode}
use Rattle.btree.proofs.Decisions.{said, says-yes}
use Rattle.btree.proofs.Faults.{says_if}
use Rattle.frame.specs.Form.{key_length, layout_of}
use Rattle.header.specs.Offsets.{Offsets, dec_offsets}
use Rattle.header.proofs.header_right.Goals as goal
use Rattle.header.proofs.header_right.Goals.{Then-depth-le8}

header : (c : Then-depth-le8) → (depth_of c.args.image.now ≡ 0 → NoTree c.args.image.now)
    → HeaderNode (layout_of c.args.form) c.args.image.now (key_length c.args.form)
header c n =
    let d = said (dec_descriptor c.args.image.now 0 1 3) (grind arith) in
    let o : Offsets (layout_of c.args.form) c.args.image.now = said (dec_offsets (layout_of c.args.form) c.args.image.now) (grind arith) in
    record {
      start = d;
      free_at = o.free_at;
      map_at = o.map_at;
      second_at = o.second_at;
      record_at = o.record_at;
      is_size = grind arith;
      is_key_length = grind arith;
      total_nodes = grind arith;
      depth_in_range = grind arith;
      no_tree = n;
    }

pub returns-then-depth-ne0 : goal.returns-then-depth-ne0
returns-then-depth-ne0 c = says_if (dec_header_node _ _ _) _ (λ e. header (goal.at.returns-then-depth-ne0 c).Then-depth-le8 (λ z. absurd (omega arith))) (λ s. grind arith)

pub returns-else-depth-ne0 : goal.returns-else-depth-ne0
returns-else-depth-ne0 c =
    says_if (dec_header_node _ _ _) _
    (λ e. header (goal.at.returns-else-depth-ne0 c).Then-depth-le8 (λ z. said (dec_no_tree _) (grind arith)))
    (λ s. let n = says-yes (dec_no_tree c.args.image.now) (s.no_tree (omega arith)) in cc)

pub returns-else-depth-le8 : goal.returns-else-depth-le8
returns-else-depth-le8 c =
    says_if (dec_header_node _ _ _) _
    (λ e. absurd (grind arith))
    (λ s.
    let d = says-yes (dec_descriptor c.args.image.now 0 1 3) s.start in
    let o = says-yes (dec_offsets (layout_of c.args.form) c.args.image.now) (record { free_at = s.free_at; map_at = s.map_at; second_at = s.second_at; record_at = s.record_at }) in
    grind arith)
