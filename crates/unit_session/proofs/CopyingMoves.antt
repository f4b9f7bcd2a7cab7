-- The texts that move, track by track.
use Rattle.std.proofs.Common.{◌≡◌, ◌==◌, ◌&&◌, ◌+◌, ◌-◌, ◌<◌, ◌≤◌, ◌++◌, ◌∷◌, [], ℕ, zero, suc, List, Bool, not, map, take, drop, length, get_or, refl, sym, ap, ◌∙◌, arith, append_assoc}
use Rattle.std.specs.Prelude.{filter, min}
use Rattle.std.specs.List.{zip}
use Rattle.std.proofs.lemmas.List.{map-append, take_more, append-nil, length-drop}
use Rattle.std.proofs.Math.Seq.{take-length}
use Rattle.std.proofs.lemmas.Grind.{flat_map-append}
use Rattle.std.proofs.lemmas.List.Elements.{filter-append}
use Rattle.dscb_rec.specs.declared.field.Extent.{Extent}
use Rattle.volume_model.specs.Dscbs.{numbers_below}
use Rattle.volume_model.specs.Reads.{extent_in}
use Rattle.volume_model.specs.Space.{run_of}
use Rattle.volume_model.specs.Unit as models
use Rattle.vtoc_core.specs.Loaded.{field_of}
use Rattle.unit_session.specs.declared.copies.TextMove.{TextMove}
use Rattle.unit_session.specs.Copies.{moves_between}

abbrev moving : Bool → ℕ × ℕ → Bool
moving one_unit pair = not (one_unit && (pair.0 == pair.1))

abbrev made : ℕ × ℕ → TextMove
made pair = record { from = pair.0; to = pair.1 }

zip_more : (xs ys : List ℕ) (n d e : ℕ) → n < length xs → n < length ys → zip (take (suc n) xs) (take (suc n) ys) ≡ zip (take n xs) (take n ys) ++ (get_or xs n d, get_or ys n e) ∷ []
zip_more [] ys n d e less below = absurd (omega (arith, less))
zip_more (x ∷ xs) [] n d e less below = absurd (omega (arith, below))
zip_more (x ∷ xs) (y ∷ ys) zero d e less below = refl
zip_more (x ∷ xs) (y ∷ ys) (suc n) d e less below = ap (λ (l : List (ℕ × ℕ)). (x, y) ∷ l) (zip_more xs ys n d e (omega (arith, less)) (omega (arith, below)))

zip_all : (xs ys : List ℕ) (n : ℕ) → min (length xs) (length ys) ≤ n → zip (take n xs) (take n ys) ≡ zip xs ys
zip_all [] ys zero all = refl
zip_all [] ys (suc n) all = refl
zip_all (x ∷ xs) [] zero all = refl
zip_all (x ∷ xs) [] (suc n) all = refl
zip_all (x ∷ xs) (y ∷ ys) zero all = absurd (omega (arith, all))
zip_all (x ∷ xs) (y ∷ ys) (suc n) all = ap (λ (l : List (ℕ × ℕ)). (x, y) ∷ l) (zip_all xs ys n (omega (arith, all)))

pub moves_more : (one_unit : Bool) (xs ys : List ℕ) (n m d e : ℕ) → m ≡ suc n → n < length xs → n < length ys
    → moves_between one_unit (take m xs) (take m ys) ≡ moves_between one_unit (take n xs) (take n ys) ++ moves_between one_unit (get_or xs n d ∷ []) (get_or ys n e ∷ [])
moves_more one_unit xs ys n m d e next less below =
    let last = (get_or xs n d, get_or ys n e) ∷ [] in
    ap (λ (k : ℕ). moves_between one_unit (take k xs) (take k ys)) next
    ∙ ap (λ (l : List (ℕ × ℕ)). map made (filter (moving one_unit) l)) (zip_more xs ys n d e less below)
    ∙ ap (map made) (filter-append (moving one_unit) (zip (take n xs) (take n ys)) last)
    ∙ map-append made (filter (moving one_unit) (zip (take n xs) (take n ys))) (filter (moving one_unit) last)

pub moves_all : (one_unit : Bool) (xs ys : List ℕ) (n : ℕ) → min (length xs) (length ys) ≤ n → moves_between one_unit (take n xs) (take n ys) ≡ moves_between one_unit xs ys
moves_all one_unit xs ys n all = ap (λ (l : List (ℕ × ℕ)). map made (filter (moving one_unit) l)) (zip_all xs ys n all)

-- ---- tracks

pub run_more : (front now : List ℕ) (first track : ℕ) → first ≤ track → now ≡ front ++ map (λ place. first + place) (numbers_below (track - first))
    → now ++ track ∷ [] ≡ front ++ map (λ place. first + place) (numbers_below (track + 1 - first))
run_more front now first track from is =
    let n = track - first in
    let next : track + 1 - first ≡ suc n = omega (arith, from) in
    let last : first + n ≡ track = omega (arith, from) in
    let add : ℕ → ℕ = λ place. first + place in
    ap (λ (l : List ℕ). l ++ track ∷ []) is ∙ append_assoc front (map add (numbers_below n)) (track ∷ [])
    ∙ ap (λ (l : List ℕ). front ++ l) (ap (λ (t : ℕ). map add (numbers_below n) ++ t ∷ []) (sym last) ∙ sym (map-append add (numbers_below n) (n ∷ [])))
    ∙ ap (λ (k : ℕ). front ++ map add (numbers_below k)) (sym next)

pub extents_more : (heads : ℕ) (xs : List Extent) (i : ℕ) (d : Extent) → i < length xs
    → models.tracks_of (map (λ extent. extent_in heads (field_of extent)) (take (i + 1) xs))
    ≡ models.tracks_of (map (λ extent. extent_in heads (field_of extent)) (take i xs)) ++ models.tracks_in (run_of heads (field_of (get_or xs i d)))
extents_more heads xs i d less =
    let f : Extent → models.Extent = λ extent. extent_in heads (field_of extent) in
    let g : models.Extent → List ℕ = λ extent. models.tracks_in extent.run in
    let last = get_or xs i d in
    ap (λ (l : List Extent). models.tracks_of (map f l)) (take_more xs i d less) ∙ ap models.tracks_of (map-append f (take i xs) (last ∷ []))
    ∙ flat_map-append g (map f (take i xs)) (f last ∷ []) ∙ ap (λ (l : List ℕ). models.tracks_of (map f (take i xs)) ++ l) (append-nil (g (f last)))

pub extents_next : (heads : ℕ) (xs items : List Extent) (i : ℕ) (d : Extent) → items ≡ xs → i < length items → (now later : List ℕ)
    → now ≡ models.tracks_of (map (λ extent. extent_in heads (field_of extent)) (take i xs)) → later ≡ now ++ models.tracks_in (run_of heads (field_of (get_or items i d)))
    → later ≡ models.tracks_of (map (λ extent. extent_in heads (field_of extent)) (take (i + 1) xs))
extents_next heads xs items i d same less now later is next =
    let f : Extent → models.Extent = λ extent. extent_in heads (field_of extent) in
    let last = models.tracks_in (run_of heads (field_of (get_or items i d))) in
    next ∙ ap (λ (l : List ℕ). l ++ last) is ∙ ap (λ (l : List Extent). models.tracks_of (map f (take i l)) ++ last) (sym same) ∙ sym (extents_more heads items i d less)
    ∙ ap (λ (l : List Extent). models.tracks_of (map f (take (i + 1) l))) same

-- all behind a number of tracks
pub rest_all : (xs : List ℕ) (n : ℕ) → take (length xs - n) (drop n xs) ≡ drop n xs
rest_all xs n = ap (λ (k : ℕ). take k (drop n xs)) (sym (length-drop n xs)) ∙ take-length (drop n xs)
