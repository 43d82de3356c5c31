-- `floor` meets its contract. Assumes nothing.
use mathlib.Core.Path.{◌≡◌, refl, sym, ap, subst, ◌∙◌}
use mathlib.Core.List.Memᴰ
use native.Mathlib.Omega.{arith}
use lib.ListN.{length}
use Rattle.btree.specs.declared.Verdict.{Verdict}
use Rattle.btree.specs.Places.{image_start}
use Rattle.btree.specs.Search.{floor_of}
use Rattle.btree.proofs.Decisions.{said, unsaid}
use Rattle.btree.specs.Faults.{number_of}
use Rattle.btree.proofs.Faults.{some_number}
use Rattle.extents.specs.Reader.{checked}
use Prim.Native.Nat.{ℕ}
use Rattle.btree.proofs.Work.{left-untouched, leaves}
use Rattle.frame.specs.declared.form.Form.{Form}
use Rattle.frame.specs.Form.{hfs, layout_of}
use Rattle.frame.proofs.Forms.{hfs-listed, fair}
use Rattle.extent_keys.specs.declared.key.Key.{Key}
use Rattle.extent_keys.specs.Key.{Lawful, dec_lawful, asked}
use Rattle.image.proofs.Words.{Bytes}
use Rattle.extent_keys.proofs.Order.{InRange}
use Rattle.formats.specs.Asked.{asked_rank}
use Rattle.formats.specs.Format.{format_of, view}
use Rattle.search.specs.Descent.{Searchable}
use Rattle.search.proofs.Searched.{searchable}
use Rattle.extents.specs.declared.floors.Floor.{Floor}
use Rattle.extents.specs.declared.floors.Floor.TheVariants.{Refused}
use Rattle.extents.specs.Floor.{floored_as, floored, FloorSays}
use Rattle.extents.proofs.Highest.{floored-unlawful, floored-refused, floored-answers, floor-says, descends}
use Rattle.extents.proofs.floor.Goals as goal
use Rattle.extents.proofs.floor.Goals.{After-shared_slice_known-1, Else-not-is_lawful, Start, Then-not-is_lawful}

bytes : (c : After-shared_slice_known-1) → Bytes c.args.image.now
bytes c i = omega (arith, c.shared_slice_known-1.given i)

abbrev key_of : Start → Key
key_of s = asked s.args.file s.args.fork s.args.start

key-in_range : (s : Start) → InRange (key_of s)
key-in_range s = record { fork = omega arith; start = omega arith }

abbrev floor-of : Start → Floor
floor-of s = floored s.args.image.now (key_of s) (length s.args.work.now)

-- what equals the definition says what is said of it
told : (c : After-shared_slice_known-1) (r : Floor) → r ≡ floor-of (goal.at.After-shared_slice_known-1 c).Start → FloorSays c.args.image.now (key_of (goal.at.After-shared_slice_known-1 c).Start) (length c.args.work.now) r
told c r e =
    subst (λ (x : Floor). FloorSays c.args.image.now (key_of (goal.at.After-shared_slice_known-1 c).Start) (length c.args.work.now) x) (sym e) (floor-says c.args.image.now (key_of (goal.at.After-shared_slice_known-1 c).Start) _ (bytes c) (key-in_range (goal.at.After-shared_slice_known-1 c).Start))

lawful : (c : Else-not-is_lawful) → Lawful c.args.fork
lawful c = said (dec_lawful _) (sym c.is_lawful.ensures ∙ c.if-not-is_lawful.false)

unlawful : (c : Then-not-is_lawful) → Lawful c.args.fork → ⊥
unlawful c = unsaid (dec_lawful _) (sym c.is_lawful.ensures ∙ c.if-not-is_lawful.true)

pub returns-then-not-is_lawful : goal.returns-then-not-is_lawful
returns-then-not-is_lawful c =
    let e = ap (λ (k : ℕ). Refused k image_start) c.number.ensures ∙ sym (floored-unlawful c.args.image.now (key_of (goal.at.returns-then-not-is_lawful c).Start) (length c.args.work.now) (unlawful (goal.at.returns-then-not-is_lawful c).Then-not-is_lawful)) in record {
      equal = e;
      says = told (goal.at.returns-then-not-is_lawful c).After-shared_slice_known-1 _ e;
      leaves = rw c.number.ensures (leaves (layout_of hfs) _ (format_of hfs) 11 _ _ (sym (left-untouched (layout_of hfs) _ (format_of hfs) 11 _ (Memᴰ.tail (Memᴰ.head refl)))));
    }

pub returns-in-Err : goal.returns-in-Err
returns-in-Err c =
    let v = c.in-Err.ensures.equal in
    let s = some_number c.in-Err.fault.refusal in
    let n : number_of c.in-Err.fault.refusal ≡ (checked c.args.image.now (length c.args.work.now)).number = ap (λ (x : Verdict). x.number) v in
    let e : Refused c.number-in-Err.result c.in-Err.fault.place ≡ floor-of (goal.at.returns-in-Err c).Start =
    ap (λ (k : ℕ). Refused k c.in-Err.fault.place) c.number-in-Err.ensures
    ∙ ap (λ (x : Verdict). Refused x.number x.place) v
    ∙ sym (floored-refused c.args.image.now (key_of (goal.at.returns-in-Err c).Start) (length c.args.work.now) (lawful (goal.at.returns-in-Err c).Else-not-is_lawful) (λ w. omega (arith, n ∙ w, s))) in record {
      equal = e;
      says = told (goal.at.returns-in-Err c).After-shared_slice_known-1 _ e;
      leaves = rw c.number-in-Err.ensures c.in-Err.ensures.leaves;
    }

pub floor-answer-requires : goal.floor-answer-requires
floor-answer-requires c =
    subst (λ (form : Form). Searchable form c.args.image.now) (sym c.of_hfs.ensures) (searchable hfs (fair hfs hfs-listed) _ (c.in-Ok.ensures.says.sound.0 refl).0)

pub returns-in-Ok : goal.returns-in-Ok
returns-in-Ok c =
    let img = c.args.image.now in
    let z = sym (ap (λ (x : Verdict). x.number) c.in-Ok.ensures.equal) in
    let w = c.floor-answer.ensures ∙ ap (λ (form : Form). floor_of (view form img) (asked_rank form c.sort_key-key.result c.no_part.result.now)) c.of_hfs.ensures ∙ ap (floor_of (view hfs img)) c.sort_key-key.ensures in
    let r = c.floored_as.ensures ∙ ap (floored_as img) w in
    let e = r ∙ sym (floored-answers img (key_of (goal.at.returns-in-Ok c).Start) (length c.args.work.now) (lawful (goal.at.returns-in-Ok c).Else-not-is_lawful) z) in record {
      equal = e;
      says = told (goal.at.returns-in-Ok c).After-shared_slice_known-1 _ e;
      leaves = rw r (descends img _ _ _ c.in-Ok.ensures.leaves);
    }
