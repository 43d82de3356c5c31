-- The parts as they are written, one after another, are the image laid down.
-- Assumes nothing.
use mathlib.Core.Path.{◌≡◌, refl, sym, ap, ◌∙◌}
use mathlib.Core.List.{List, [], ◌∷◌, ◌++◌, append_assoc}
use Prim.Native.Nat.{ℕ, zero, suc, ◌+◌, ◌-◌, ◌*◌, ◌/◌, ◌≤◌, ◌<◌}
use native.Mathlib.Omega.{arith}
use lib.ListN.{length, replicate, replicate-append-replicate}
use Rattle.btree.specs.Lists.{span}
use Rattle.btree.proofs.Lists.{gather_append}
use Rattle.shape.specs.Shape.{records_in, first_in, record_under, nodes_at, start}
use Rattle.shape.proofs.Shape.{leaf-nodes, start_first, start-low, start-step, nodes-some, levels-most, levels-deep, records-few}
use Rattle.shape.proofs.Shaped.{Deep}
use Rattle.laid.specs.Laid.{maps_for, map_node, header, node, level_nodes, image_nodes, joined, laid}
use Rattle.level_writer.specs.Parts.{leaves_from, index_levels, levels_size, LevelsIn}
use Rattle.tree_writer.specs.Target.{FrontIn, TreeIn, TargetIn}
use Rattle.tree_writer.proofs.Upper.{joined-ones, levels-is, size_is, levels-in}

zero-nodes : (n : ℕ) → joined (replicate n (replicate 512 0)) ≡ replicate (n * 512) 0
zero-nodes zero = refl
zero-nodes (suc n) =
    let z : 512 + n * 512 ≡ suc n * 512 = omega arith in
    ap (λ x. replicate 512 0 ++ x) (zero-nodes n) ∙ replicate-append-replicate {A = ℕ} 512 (n * 512) 0 ∙ ap (λ x. replicate x 0) z

-- the leaves and the levels above them; no leaves where there is no level
tree_is : (row : List ℕ) (m D n : ℕ) → n ≡ nodes_at (records_in row) 0 → Deep (records_in row) D
    → leaves_from row (1 + m) 0 n ++ index_levels row (D - 1) 2 (1 + m) n 440 ≡ joined (span 0 D (level_nodes row m (records_in row)))
unfolding index_levels record_under first_in
tree_is row m zero n e deep =
    let z : n ≡ 0 = omega (arith, leaf-nodes (records_in row), deep.none refl) in
    rw z
tree_is row m (suc d) n e deep =
    let r = records_in row in
    let a : suc d - 1 ≡ d = omega arith in
    let b : 1 + m - 1 ≡ m = omega arith in
    let s = start_first m r in
    rw (a, b, e, sym s)
    (ap (λ x. span 0 (nodes_at r 0) (node row m r 0) ++ x) (levels-is row m r d 0)
    ∙ ap (λ x. x ++ joined (span 1 d (level_nodes row m r))) (sym (joined-ones (node row m r 0) 0 (nodes_at r 0)))
    ∙ sym (gather_append (λ x. x) (level_nodes row m r 0) (span 1 d (level_nodes row m r))))

-- where the tree ends
pub tree-end : (m r D n : ℕ) → n ≡ nodes_at r 0 → Deep r D → 512 + 512 * m + (512 * n + levels_size (D - 1) n) ≡ 512 * start m r D
unfolding levels_size
tree-end m r zero n e deep = let z : n ≡ 0 = omega (arith, leaf-nodes r, deep.none refl) in rw z (omega (arith, start_first m r))
tree-end m r (suc d) n e deep =
    let a : suc d - 1 ≡ d = omega arith in
    let b = size_is m r d 0 in
    let c : 1 + d ≡ suc d = omega arith in
    let f = start_first m r in
    let g = start-step m r 0 in
    rw (a, e) (omega (arith, rw c at b))

module _ (row : List ℕ) (size maps depth root used : ℕ) (p : TargetIn (length row) size maps depth root used) where
  abbrev r : ℕ
  r = records_in row

  fits : start maps r depth ≤ 65536
  fits = omega (arith, p.is_used, p.fits, p.few)

  records-most : r ≤ 1441792
  records-most = records-few maps r (rw p.is_depth at fits)

  deep : Deep r depth
  deep = rw p.is_depth (levels-deep r records-most)

  pub leaves-most : nodes_at r 0 ≤ 65536
  leaves-most = omega (arith, leaf-nodes r, records-most)

  pub maps-most : maps ≤ 20
  unfolding maps_for
  maps-most = omega (arith, p.is_maps, p.few)

  pub depth-most : depth ≤ 8
  depth-most = rw p.is_depth (levels-most r)

  pub records-fit : r < 4294967296
  records-fit = omega (arith, records-most)

  pub end_is : (n : ℕ) → n ≡ nodes_at r 0 → 512 + 512 * maps + (512 * n + levels_size (depth - 1) n) ≡ 512 * used
  end_is n e = rw p.is_used (tree-end maps r depth n e deep)

  pub front-in : (n : ℕ) → n ≡ nodes_at r 0 → FrontIn size maps depth root r n (size / 512) used
  front-in n e =
      record {
        room = omega (arith, start-low maps r depth, p.is_used, p.fits);
        few = maps-most;
        low = depth-most;
        leaves = e;
        some = λ l. omega (arith, nodes-some deep 0 l);
        narrow = omega (arith, leaves-most);
        is_root = p.is_root;
        is_used = p.is_used;
        fits = p.fits;
      }

  pub tree-in : (n : ℕ) → n ≡ nodes_at r 0 → TreeIn size (512 + 512 * maps) (length row) maps depth n
  unfolding LevelsIn record_under first_in
  tree-in n e =
      record {
        low = depth-most;
        leaves =
            record {
              whole = p.whole;
              some = omega arith;
              nodes = e ∙ leaf-nodes r;
              numbers = omega (arith, leaves-most, maps-most);
              room = omega (arith, end_is n e, p.fits);
            };
        levels = upper depth refl;
      }
    where
      upper : (d : ℕ) → d ≡ depth → LevelsIn size (length row) (d - 1) (512 + 512 * maps + 512 * n) (1 + maps) n 440
      upper zero l = tt
      upper (suc d) l =
          let a : suc d - 1 ≡ d = omega arith in
          let s = start_first maps r in
          let b : 512 * start maps r 1 ≡ 512 + 512 * maps + 512 * n = omega (arith, start-step maps r 0) in
          let i = levels-in maps r depth size (length row) deep fits (omega (arith, p.is_used, p.fits)) (omega arith) (omega (arith, records-most, p.whole)) d 0 (omega arith) in
          rw (a, e, sym s) (rw (b ∙ ap (λ x. 512 + 512 * maps + 512 * x) e) at i)

  -- what is written in all
  pub all-is : (n rest : ℕ) → n ≡ nodes_at r 0 → rest ≡ size - 512 * used
      → (header maps r depth (size / 512) ++ span 0 maps (map_node maps used)) ++ ((leaves_from row (1 + maps) 0 n ++ index_levels row (depth - 1) 2 (1 + maps) n 440) ++ replicate rest 0)
      ≡ laid row (size / 512)
  unfolding laid image_nodes
  all-is n rest e f =
      let z : rest ≡ (size / 512 - start maps r depth) * 512 = omega (arith, p.is_used, p.nodes) in
      let h = header maps r depth (size / 512) in
      let ms = span 0 maps (λ i. map_node maps (start maps r depth) i ∷ []) in
      let t = span 0 depth (level_nodes row maps r) in
      let zs = replicate (size / 512 - start maps r depth) (replicate {A = ℕ} 512 0) in
      rw (p.is_used, z, tree_is row maps depth n e deep, sym (zero-nodes (size / 512 - start maps r depth)))
      (append_assoc h (span 0 maps (map_node maps (start maps r depth))) (joined t ++ joined zs)
      ∙ ap (λ x. h ++ (span 0 maps (map_node maps (start maps r depth)) ++ x)) (sym (gather_append (λ x. x) t zs))
      ∙ ap (λ x. h ++ (x ++ joined (t ++ zs))) (sym (joined-ones (map_node maps (start maps r depth)) 0 maps))
      ∙ ap (λ x. h ++ x) (sym (gather_append (λ x. x) ms (t ++ zs)))
      ∙ ap (λ x. joined (image_nodes row x r depth (size / 512))) p.is_maps
      ∙ ap (λ x. joined (image_nodes row (maps_for (size / 512)) r x (size / 512))) p.is_depth)
