-- What the tests that passed say of an image, for those that follow.
-- Assumes nothing.
use mathlib.Core.Path.{◌≡◌}
use mathlib.Core.Bool.{true}
use mathlib.Core.List.{List, [], ◌∷◌}
use Prim.Native.Nat.{ℕ, suc, ◌*◌, ◌≤◌}
use native.Mathlib.Omega.{arith}
use lib.ListN.{length}
use Rattle.btree.specs.Decide.{says}
use Rattle.btree.specs.Header.{total_of, map_nodes, view_of}
use Rattle.btree.specs.Image.{HeaderNode, MapChain}
use Rattle.btree.specs.Tests.{dec_header_node, chain_from}
use Rattle.btree.proofs.Decisions.{said}
use Rattle.btree.proofs.Chain.{chain-few, chain-rules}
use Rattle.btree.proofs.MapBits.{some-nodes}
use Rattle.frame.specs.declared.form.Form.{Form}
use Rattle.frame.specs.Form.{key_length, layout_of}
use Rattle.chain.specs.Frame.{Marks, Room}
use Rattle.map.specs.Framed.{Framed}
use Rattle.frame.proofs.Forms.{fits, nodes-few, nodes-whole}
use Rattle.walk.specs.Outcome.{Begins}
use Rattle.checks.specs.Tested.{Ready}

module _ (form : Form) (img bits : List ℕ) (ready : Ready form img bits) (h : says (dec_header_node (layout_of form) img (key_length form)) ≡ true) where
  header : HeaderNode (layout_of form) img (key_length form)
  header = said (dec_header_node (layout_of form) img (key_length form)) h

  few : total_of img ≤ 65536
  few = let a = nodes-few form (length img) ready.lengths.few in let b = header.total_nodes in omega arith

  -- the bytes have a bit for each node
  enough : total_of img ≤ 8 * length bits
  enough = let a = ready.enough in let b = header.total_nodes in omega arith

  pub room : Room form img bits
  room = record { fair = ready.fair; some = some-nodes (layout_of form) (fits form ready.fair) img ready.lengths header.total_nodes; few = few; enough = enough }

  module _ (c : (chain_from (layout_of form) img [] 0 (map_nodes (layout_of form) img)).number ≡ 0) where
    chain : MapChain (layout_of form) img
    chain = chain-rules (layout_of form) img room.some c

    pub framed : Framed form img
    framed = record { fair = ready.fair; lengths = ready.lengths; total_nodes = header.total_nodes; chain = chain }

    -- the chain's walk leaves as many bytes as there were
    pub begins : (after : List ℕ) → length after ≡ length bits → (nodes : ℕ) → Marks after (0 ∷ map_nodes (layout_of form) img) → nodes ≡ suc (length (map_nodes (layout_of form) img)) → Begins form img after nodes
    unfolding view_of
    begins after e nodes marks count =
        let k = chain-few (layout_of form) img room.some chain.once chain.in_range in
        record {
          walkable =
              record {
                fair = ready.fair;
                few = few;
                whole = let b = header.total_nodes in rw b (nodes-whole form (length img));
                room = let q = enough in omega arith;
                shallow = header.depth_in_range;
              };
          marks = marks;
          count = count;
          small = let f = few in omega arith;
        }
