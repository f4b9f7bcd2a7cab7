-- Slots read as one VTOC at most, where each spells one track text; so they do where they are no longer than a block can be.
use Rattle.std.proofs.Common.{◌≡◌, ℕ, ◌+◌, ◌<◌, ◌≤◌, List, length, map, find, Bool, ◌==◌, Option, Some, None, refl, sym, ap, subst, ◌∙◌, arith}
use Rattle.std.proofs.lemmas.List.{ext_get_or}
use Rattle.std.proofs.lemmas.Option.{same_Some}
use Rattle.ckd_image.specs.declared.head.Head.{Head}
use Rattle.ckd_image.specs.declared.track.Cchhr.{Cchhr}
use Rattle.ckd_image.specs.declared.track.Track.{Track}
use Rattle.ckd_image.specs.Address.{address_of}
use Rattle.ckd_image.specs.Device.{heads_of}
use Rattle.free_map.specs.declared.run.Run.{Run}
use Rattle.volume_model.specs.declared.place.Vtoc.{Vtoc}
use Rattle.volume_model.specs.Dscbs.{number_at, extent_at}
use Rattle.volume_model.specs.Space.{track_at, run_of}
use Rattle.volume_model.specs.Sound.{Slots, dscb_of, IsTrackReading, IsReading, IsFormat4, limit_of, is_valid, IsVtoc}
use Rattle.volume_model.proofs.Addresses.{short_spells}
use Rattle.volume_model.proofs.OneText.{SpellsOne}

-- one slot says one format 4
pub spelled_format_4 : (heads : ℕ) (slots : Slots) (pointer : Cchhr) (a b : List ℕ) → SpellsOne pointer.at (slots (track_at heads pointer.at))
    → IsFormat4 heads slots pointer a → IsFormat4 heads slots pointer b → a ≡ b
spelled_format_4 heads slots pointer a b spells one other =
    let text : one.text ≡ other.text = spells one.text other.text one.stands other.stands in
    let rec : one.rec ≡ other.rec =
    same_Some one.rec other.rec (sym one.numbered ∙ ap (λ (t : Track). find (λ x. x.r == pointer.r) t.recs) text ∙ other.numbered) in
    one.bytes_are ∙ ap dscb_of rec ∙ sym other.bytes_are

pub one_format_4 : (heads : ℕ) (slots : Slots) (pointer : Cchhr) (a b : List ℕ) → length (slots (track_at heads pointer.at)) ≤ 65536
    → IsFormat4 heads slots pointer a → IsFormat4 heads slots pointer b → a ≡ b
one_format_4 heads slots pointer a b short = spelled_format_4 heads slots pointer a b (short_spells pointer.at (slots (track_at heads pointer.at)) short)

one_track : (heads track : ℕ) (slot : List ℕ) (a b : Option (List (List ℕ))) → SpellsOne (address_of heads track) slot → IsTrackReading heads track slot a → IsTrackReading heads track slot b
    → a ≡ b
one_track heads track slot None None spells one other = refl
one_track heads track slot None (Some b) spells one other = absurd (one b other)
one_track heads track slot (Some a) None spells one other = absurd (other a one)
one_track heads track slot (Some a) (Some b) spells one other =
    let text : one.text ≡ other.text = spells one.text other.text one.stands other.stands in
    ap Some (one.dscbs_are ∙ ap (λ (t : Track). map dscb_of t.recs) text ∙ sym other.dscbs_are)

-- the slots of a run's tracks
abbrev pub SpellOne : ℕ → Slots → Run → Type 0
SpellOne heads slots run = (k : ℕ) → k < run.len → SpellsOne (address_of heads (run.first + k)) (slots (run.first + k))

spelled_reading : (heads : ℕ) (slots : Slots) (run : Run) (a b : List (Option (List (List ℕ)))) → SpellOne heads slots run → IsReading heads slots run a → IsReading heads slots run b → a ≡ b
spelled_reading heads slots run a b spell one other =
    ext_get_or None a b (one.whole ∙ sym other.whole)
    (λ k less.
    let within : k < run.len = omega (arith, less, one.whole) in
    one_track heads (run.first + k) (slots (run.first + k)) _ _ (spell k within) (one.each k within) (other.each k within))

pub one_reading : (heads : ℕ) (slots : Slots) (run : Run) (a b : List (Option (List (List ℕ)))) → ((k : ℕ) → k < run.len → length (slots (run.first + k)) ≤ 65536)
    → IsReading heads slots run a → IsReading heads slots run b → a ≡ b
one_reading heads slots run a b short =
    spelled_reading heads slots run a b (λ k within. short_spells (address_of heads (run.first + k)) (slots (run.first + k)) (short k within))

-- the slot of the format 4 and those of the VTOC's tracks
module _ (head : Head) (slots : Slots) (pointer : Cchhr) (sliding : Bool) (a b : Vtoc) (home : SpellsOne pointer.at (slots (track_at (heads_of head.device) pointer.at)))
    (spell : SpellOne (heads_of head.device) slots a.run) (one : IsVtoc head slots pointer sliding a) (other : IsVtoc head slots pointer sliding b) where
  same_bytes : one.bytes ≡ other.bytes
  same_bytes = spelled_format_4 (heads_of head.device) slots pointer one.bytes other.bytes home one.format_4 other.format_4

  same_run : a.run ≡ b.run
  same_run = one.run_is ∙ ap (λ (bytes : List ℕ). run_of (heads_of head.device) (extent_at bytes 105)) same_bytes ∙ sym other.run_is

  same_tracks : a.tracks ≡ b.tracks
  same_tracks =
      spelled_reading (heads_of head.device) slots a.run a.tracks b.tracks spell one.reading
      (subst (λ (run : Run). IsReading (heads_of head.device) slots run b.tracks) (sym same_run) other.reading)

  same_vtoc : a ≡ b
  same_vtoc =
      let heads : a.heads ≡ b.heads = one.heads_are ∙ sym other.heads_are in
      let limit : a.limit ≡ b.limit = one.limit_is ∙ ap (limit_of head) same_bytes ∙ sym other.limit_is in
      let place : a.format_4 ≡ b.format_4 = one.place_is ∙ sym other.place_is in
      let valid : a.valid ≡ b.valid = one.valid_is ∙ ap (is_valid sliding) same_bytes ∙ sym other.valid_is in
      let alternates : a.alternates ≡ b.alternates = one.alternates_are ∙ ap (λ (bytes : List ℕ). number_at bytes 56) same_bytes ∙ sym other.alternates_are in
      (λ i. record {
        heads = heads i;
        limit = limit i;
        format_4 = place i;
        valid = valid i;
        alternates = alternates i;
        run = same_run i;
        tracks = same_tracks i;
      })

  pub spelled_vtoc : (a ≡ b) × (one.bytes ≡ other.bytes)
  spelled_vtoc = (same_vtoc, same_bytes)

pub one_vtoc : (head : Head) (slots : Slots) (pointer : Cchhr) (sliding : Bool) (a b : Vtoc) → length (slots (track_at (heads_of head.device) pointer.at)) ≤ 65536
    → ((k : ℕ) → k < a.run.len → length (slots (a.run.first + k)) ≤ 65536) → (one : IsVtoc head slots pointer sliding a) → (other : IsVtoc head slots pointer sliding b)
    → (a ≡ b) × (one.bytes ≡ other.bytes)
one_vtoc head slots pointer sliding a b home short one other =
    spelled_vtoc head slots pointer sliding a b (short_spells pointer.at (slots (track_at (heads_of head.device) pointer.at)) home)
    (λ k within. short_spells (address_of (heads_of head.device) (a.run.first + k)) (slots (a.run.first + k)) (short k within)) one other
