-- `entry_numbers` meets its contract. Assumes nothing.
use Rattle.std.proofs.Common.{◌≡◌, length, [], ◌∷◌}
use Rattle.std.proofs.lemmas.List.{take_at, drop_at}
use Rattle.catalog_replies.proofs.entry_numbers.Goals as goal

pub returns : goal.returns
returns c =
    let front = c.copy_from_slice.new.self in
    let n : length front ≡ 13 = c.copy_from_slice.ensures.len in
    rw (take_at front (0 ∷ 0 ∷ []) 13 n, drop_at front (0 ∷ 0 ∷ []) 13 n, c.copy_from_slice.ensures.after, c.copy_from_slice-2.ensures.after, c.lookup_numbers.ensures, c.plain_lookup.ensures, c.size_of_type.ensures.0, c.found_type-kind.ensures)
