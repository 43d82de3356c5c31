-- `keys::last_of_full` meets its contract. Assumes nothing.
use native.Mathlib.Omega.{arith}
use Prim.Native.Nat.{◌+◌, ◌*◌}
use mathlib.Core.Path.{◌≡◌}
use Rattle.fast_records.proofs.Surely.{bytes-of}
use Rattle.fast_records.proofs.Rising.{key-at, climbs-one, climbs-more, rises-where-clean}
use Rattle.fast_records.proofs.keys.last_of_full.Goals as goal

pub loop-turn-init : goal.loop-turn-init
loop-turn-init c =
    let a = c.args in
    let b = bytes-of _ c.type_inv.image in
    let z : a.first ≡ a.first + 0 * 20 = omega arith in
    record {
      place = omega arith;
      next = c.be64_in-next.ensures;
      second = c.be64_in-second.ensures;
      third = c.be64_in-third.ensures;
      climbs = climbs-one _ _ _ b _ _ (key-at _ _ 20 b 0 a.first a.raw _ c.turned-key.ensures c.requires.1 z) (λ q. (c.noted-notes.ensures q).1);
    }

pub loop-turn-preserved : goal.loop-turn-preserved
loop-turn-preserved c =
    let l = c.loop-turn in
    let v = l.invariant in
    let b = bytes-of _ c.type_inv.image in
    let i = 1 + 3 * l._turn in
    let e1 : l.at + 20 ≡ c.args.first + i * 20 = omega (arith, v.place) in
    let e2 : l.at + 40 ≡ c.args.first + (i + 1) * 20 = omega (arith, v.place) in
    let e3 : l.at + 60 ≡ c.args.first + (i + 1 + 1) * 20 = omega (arith, v.place) in
    let c1 = climbs-more _ _ _ b i _ _ _ _ (omega arith) v.climbs (key-at _ _ _ b i _ _ _ c.turned-above.ensures v.next e1) c.if-above-key.false c.noted-notes-in-loop-turn.ensures in
    let c2 = climbs-more _ _ _ b (i + 1) _ _ _ _ (omega arith) c1 (key-at _ _ _ b (i + 1) _ _ _ c.turned-higher.ensures v.second e2) c.if-higher-above.false c.noted-notes-in-loop-turn-2.ensures in
    let c3 = climbs-more _ _ _ b (i + 1 + 1) _ _ _ _ (omega arith) c2 (key-at _ _ _ b (i + 1 + 1) _ _ _ c.turned-key-in-loop-turn.ensures v.third e3) c.if-key-higher.false c.noted-notes-in-loop-turn-3.ensures in
    let z : 1 + 3 * (l._turn + 1) ≡ i + 1 + 1 + 1 = omega arith in
    record {
      place = omega (arith, v.place);
      next = c.be64_in-next-in-loop-turn.ensures;
      second = c.be64_in-second-in-loop-turn.ensures;
      third = c.be64_in-third-in-loop-turn.ensures;
      climbs = rw z c3;
    }

pub returns : goal.returns
returns c =
    let l = c.loop-turn in
    rises-where-clean _ _ _ (bytes-of _ c.type_inv.image) (1 + 3 * l._turn) 22 _ _ _ (omega (arith, c.loop-turn-test.false, l.auto._turn-end)) (omega arith) l.invariant.climbs c.packed_if_clean.ensures
