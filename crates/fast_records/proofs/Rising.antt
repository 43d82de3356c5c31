-- Keys that are lawful and ascend, one after another.
-- Assumes nothing.
use mathlib.Core.Path.{◌≡◌, ap, ◌∙◌}
use mathlib.Core.List.{List}
use Prim.Native.Nat.{ℕ, suc, ◌+◌, ◌-◌, ◌*◌, ◌/◌, ◌<◌}
use native.Mathlib.Decide.{ℕ_discrete}
use native.Mathlib.Omega.{arith}
use lib.ListN.{get_or}
use Rattle.std.specs.Prelude.{IfSome}
use Rattle.std.specs.declared.option.Option.{Option}
use Rattle.std.specs.declared.option.Option.TheVariants.{Some, None}
use borrow.Author.Count.{below_more}
use Rattle.image.specs.Bytes.{be64_at}
use Rattle.image.proofs.Words.{Bytes}
use Rattle.fast_records.specs.Keyed.{turn, packed_at, Clean, LawfulKey, LawAt, Rises}
use Rattle.fast_records.proofs.Numbers.{turn-key, law-of}

-- the turned key of record i
module _ (img : List ℕ) (first step : ℕ) where
  abbrev pub turned_at : ℕ → ℕ
  turned_at i = packed_at img (first + i * step) * 256 + get_or img (first + i * step) 0

  -- i keys ascend to this one, with their lengths; where the notes are clean, they are lawful
  pub record Climbs (i key notes : ℕ) : Type 0 where
    pub ascend : (j : ℕ) → suc j < i → turned_at j < turned_at (suc j)
    pub last : key ≡ turned_at (i - 1)
    pub law : Clean notes → (j : ℕ) → j < i → LawAt img (first + j * step)

  module _ (b : Bytes img) where
    -- the eight bytes that stand there, turned
    pub key-at : (i at raw key : ℕ) → key ≡ turn raw → raw ≡ be64_at img at → at ≡ first + i * step → key ≡ turned_at i
    key-at i at raw key k r e = k ∙ ap turn (rw e at r) ∙ turn-key img b (first + i * step)

    pub climbs-one : (key notes : ℕ) → key ≡ turned_at 0 → (Clean notes → LawfulKey key) → Climbs 1 key notes
    climbs-one key notes e f =
        record {
          ascend = λ j h. absurd (omega arith);
          last = e;
          law = λ c j h. (let q : j ≡ 0 = omega arith in rw q (law-of img b (first + 0 * step) key e (f c)));
        }

    pub climbs-more : (i key notes above after : ℕ) → 0 < i → Climbs i key notes → above ≡ turned_at i → key < above
        → (Clean after → Clean notes × LawfulKey above) → Climbs (i + 1) above after
    climbs-more i key notes above after p c e u f =
        record {
          ascend = λ j h. go j h (ℕ_discrete (suc j) i);
          last = let q : i + 1 - 1 ≡ i = omega arith in rw q e;
          law = λ k. below_more (λ j. LawAt img (first + j * step)) i (c.law (f k).0) (law-of img b (first + i * step) above e (f k).1);
        }
      where
        go : (j : ℕ) → suc j < i + 1 → Dec (suc j ≡ i) → turned_at j < turned_at (suc j)
        go j h (yes q) = let z : i - 1 ≡ j = omega arith in let l = rw z at c.last in let m = rw (← q) at e in omega arith
        go j h (no n) = c.ascend j (omega arith)

    climbs-rises : (i key notes : ℕ) → 0 < i → Climbs i key notes → Clean notes → Rises img first step i (key / 256)
    climbs-rises i key notes p c k =
        record {
          law = c.law k;
          ascend = λ j h. (let a = c.ascend j h in let x = (c.law k j (omega arith)).length in let y = (c.law k (suc j) h).length in omega arith);
          last = let l = c.last in let x = b (first + (i - 1) * step) in omega arith;
        }

    -- the packed number of the last of c keys, where it is handed out only with clean notes
    pub rises-where-clean : (i c key notes : ℕ) (r : Option ℕ) → i ≡ c → 0 < i → Climbs i key notes
        → IfSome r (λ packed. Clean notes × (packed ≡ key / 256)) → IfSome r (λ last. Rises img first step c last)
    rises-where-clean i c key notes None e p k h = tt
    rises-where-clean i c key notes (Some x) e p k (n, q) = rw (← e, q) (climbs-rises i key notes p k n)
