-- `keys::last_rising` meets its contract. Assumes nothing.
use native.Mathlib.Omega.{arith}
use Prim.Native.Nat.{◌+◌, ◌*◌}
use mathlib.Core.Path.{◌≡◌}
use Rattle.fast_records.proofs.Surely.{bytes-of}
use Rattle.fast_records.proofs.Rising.{key-at, climbs-one, climbs-more, rises-where-clean}
use Rattle.fast_records.proofs.keys.last_rising.Goals as goal

pub loop-i-init : goal.loop-i-init
loop-i-init c =
    let a = c.args in
    let b = bytes-of _ c.type_inv.image in
    let z : a.first ≡ a.first + 0 * a.step = omega arith in
    record {
      place = omega arith;
      next = c.be64_in-next.ensures;
      climbs = climbs-one _ _ _ b _ _ (key-at _ _ _ b 0 a.first a.raw _ c.turned-key.ensures c.requires.3 z) (λ q. (c.noted-notes.ensures q).1);
    }

pub loop-i-preserved : goal.loop-i-preserved
loop-i-preserved c =
    let l = c.loop-i in
    let v = l.invariant in
    let b = bytes-of _ c.type_inv.image in
    record {
      place = omega (arith, v.place);
      next = c.be64_in-next-in-loop-i.ensures;
      climbs = climbs-more _ _ _ b l._i _ _ _ _ l.auto._i v.climbs (key-at _ _ _ b l._i l.at _ _ c.turned-above.ensures v.next v.place) c.if-above-key.false c.noted-notes-in-loop-i.ensures;
    }

pub returns : goal.returns
returns c =
    let l = c.loop-i in
    rises-where-clean _ _ _ (bytes-of _ c.type_inv.image) l._i c.args.c _ _ _ (omega (arith, c.loop-i-test.false, l.auto._i-end, c.requires.0)) l.auto._i l.invariant.climbs c.packed_if_clean.ensures
