-- Blocks of the same sizes stand at the same places.
use Rattle.std.proofs.Common.{◌≡◌, ℕ, ◌+◌, ◌-◌, ◌≤◌, List, [], ◌∷◌, ◌++◌, length, take, drop, map, get_or, All, refl, sym, ap, subst, ◌∙◌, arith, fold, inl, inr}
use Rattle.std.specs.List.{AllByRecursion}
use Rattle.std.proofs.lemmas.Bool.{cases_lt}
use Rattle.std.proofs.lemmas.List.{length-map, map-append, take-map}
use Rattle.std.proofs.lemmas.List.Prefix.{front_rest}
use Rattle.std.proofs.lemmas.List.Sums.{sum_by-cons}
use Rattle.std.proofs.lemmas.List.Elements.{recursion_from_All, All-from_recursion}
use Rattle.ckd_image.specs.declared.device.Device.{Device}
use Rattle.ckd_image.specs.Device.{capacity_of, cost_of}
use Rattle.org_reloc.specs.declared.block.Block.{Block}
use Rattle.org_reloc.specs.declared.directory.Page.{Page}
use Rattle.org_reloc.specs.declared.place.Place.{Place}
use Rattle.org_reloc.specs.Content.{IsBlock}
use Rattle.org_reloc.specs.Directory.{page_block}
use Rattle.ckd_image.specs.declared.track.Track.{Track}
use Rattle.org_reloc.specs.declared.partitioned.Movable.{Movable}
use Rattle.org_reloc.specs.Moved.{moved_to, moved_blocks}
use Rattle.org_reloc.specs.Taken.{origin, IsPlaceable, IsPut}
use Rattle.org_reloc.specs.Place.{place_text}
use Rattle.org_reloc.specs.Packing.{size_of, track_of, FitsAlone}
use Rattle.org_reloc.specs.Partitioned.{moved_page}
use Rattle.org_reloc.specs.Filling.{Filling, unfilled, block_cost, blocks_cost, filled_by, filling_of, groups_of, ArePlaces}
use Rattle.org_reloc.proofs.Fillings.{filled_on, filled_next}
use Rattle.org_reloc.proofs.Movings.{size_moved}

by_sizes : (P : Block → Type 0) → ((a b : Block) → size_of a ≡ size_of b → P a → P b) → (xs ys : List Block) → map size_of xs ≡ map size_of ys → AllByRecursion P xs → AllByRecursion P ys
by_sizes P keep [] [] e each = tt
by_sizes P keep [] (y ∷ ys) e each = absurd (omega (arith, ap length e))
by_sizes P keep (x ∷ xs) [] e each = absurd (omega (arith, ap length e))
by_sizes P keep (x ∷ xs) (y ∷ ys) e each =
    let head : size_of x ≡ size_of y = cc in
    let tail : map size_of xs ≡ map size_of ys = cc in
    (keep x y head each.0, by_sizes P keep xs ys tail each.1)

-- a fact that sizes tell holds of blocks of the same sizes
pub all_by_sizes : (P : Block → Type 0) → ((a b : Block) → size_of a ≡ size_of b → P a → P b) → (xs ys : List Block) → map size_of xs ≡ map size_of ys → All P xs → All P ys
all_by_sizes P keep xs ys e each = All-from_recursion P ys (by_sizes P keep xs ys e (recursion_from_All P xs each))

pub block_by_size : (a b : Block) → size_of a ≡ size_of b → IsBlock a → IsBlock b
block_by_size a b e h = record {
  key_fits = subst (λ n. n ≤ 255) (ap (λ (s : ℕ × ℕ). s.0) e) h.key_fits;
  body_fits = subst (λ n. n ≤ 65535) (ap (λ (s : ℕ × ℕ). s.1) e) h.body_fits;
}

cost_by_size : (device : Device) (a b : Block) → size_of a ≡ size_of b → block_cost device a ≡ block_cost device b
cost_by_size device a b e = ap (λ (s : ℕ × ℕ). cost_of device s.0 s.1) e

pub fit_by_size : (device : Device) (a b : Block) → size_of a ≡ size_of b → FitsAlone device a → FitsAlone device b
fit_by_size device a b e h = omega (arith, h, cost_by_size device a b e)

costs_by_sizes : (device : Device) (xs ys : List Block) → map size_of xs ≡ map size_of ys → blocks_cost device xs ≡ blocks_cost device ys
costs_by_sizes device [] [] e = refl
costs_by_sizes device [] (y ∷ ys) e = absurd (omega (arith, ap length e))
costs_by_sizes device (x ∷ xs) [] e = absurd (omega (arith, ap length e))
costs_by_sizes device (x ∷ xs) (y ∷ ys) e =
    let head : size_of x ≡ size_of y = cc in
    let tail : map size_of xs ≡ map size_of ys = cc in
    omega (arith, cost_by_size device x y head, costs_by_sizes device xs ys tail, sum_by-cons (block_cost device) x xs, sum_by-cons (block_cost device) y ys)

-- how many blocks each of the tracks has
abbrev pub counts_of : List (List Block) → List ℕ
counts_of groups = map (λ (group : List Block). length group) groups

-- the full tracks have as many blocks each, and the current one has blocks of the same sizes
record SameShape (f g : Filling) : Type 0 where
  full : counts_of f.full ≡ counts_of g.full
  current : map size_of f.current ≡ map size_of g.current

by_count : (xs ys : List Block) → map size_of xs ≡ map size_of ys → length xs ≡ length ys
by_count xs ys e = sym (length-map xs size_of) ∙ ap length e ∙ length-map ys size_of

counts_push : (fs gs : List (List Block)) (xs ys : List Block) → counts_of fs ≡ counts_of gs → length xs ≡ length ys → counts_of (fs ++ xs ∷ []) ≡ counts_of (gs ++ ys ∷ [])
counts_push fs gs xs ys e same =
    let count : List Block → ℕ = λ group. length group in
    map-append count fs (xs ∷ []) ∙ ap (λ l. l ++ length xs ∷ []) e ∙ ap (λ (n : ℕ). counts_of gs ++ n ∷ []) same ∙ sym (map-append count gs (ys ∷ []))

-- tracks with as many blocks each are as many
pub as_many : (fs gs : List (List Block)) → counts_of fs ≡ counts_of gs → length fs ≡ length gs
as_many fs gs e = sym (length-map fs (λ (group : List Block). length group)) ∙ ap length e ∙ length-map gs (λ (group : List Block). length group)

shape_step : (device : Device) (f g : Filling) (a b : Block) → SameShape f g → size_of a ≡ size_of b → SameShape (filled_by device f a) (filled_by device g b)
shape_step device f g a b h e =
    let cost = cost_by_size device a b e in
    let costs = costs_by_sizes device f.current g.current h.current in
    elim (cases_lt (capacity_of device) (blocks_cost device f.current + block_cost device a)) [
      | inl lt ↦
          let p = filled_next device f a lt in
          let q = filled_next device g b (omega (arith, lt, cost, costs)) in
          subst (λ (x : Filling). SameShape x (filled_by device g b)) (sym p) (subst (SameShape (record { full = f.full ++ f.current ∷ []; current = a ∷ [] })) (sym q) (record {
            full = counts_push f.full g.full f.current g.current h.full (by_count f.current g.current h.current);
            current = ap (λ s. s ∷ []) e;
          }))
      | inr le ↦
          let p = filled_on device f a le in
          let q = filled_on device g b (omega (arith, le, cost, costs)) in
          subst (λ (x : Filling). SameShape x (filled_by device g b)) (sym p) (subst (SameShape (record { full = f.full; current = f.current ++ a ∷ [] })) (sym q) (record {
            full = h.full;
            current = map-append size_of f.current (a ∷ []) ∙ ap (λ l. l ++ size_of a ∷ []) h.current ∙ ap (λ s. map size_of g.current ++ s ∷ []) e ∙ sym (map-append size_of g.current (b ∷ []));
          }))
    ]

shapes : (device : Device) (f g : Filling) (xs ys : List Block) → map size_of xs ≡ map size_of ys → SameShape f g → SameShape (fold (filled_by device) f xs) (fold (filled_by device) g ys)
shapes device f g [] [] e h = h
shapes device f g [] (y ∷ ys) e h = absurd (omega (arith, ap length e))
shapes device f g (x ∷ xs) [] e h = absurd (omega (arith, ap length e))
shapes device f g (x ∷ xs) (y ∷ ys) e h =
    let head : size_of x ≡ size_of y = cc in
    let tail : map size_of xs ≡ map size_of ys = cc in
    shapes device (filled_by device f x) (filled_by device g y) xs ys tail (shape_step device f g x y h head)

take_sizes : (n : ℕ) (xs ys : List Block) → map size_of xs ≡ map size_of ys → map size_of (take n xs) ≡ map size_of (take n ys)
take_sizes n xs ys e = sym (take-map size_of n xs) ∙ ap (λ l. take n l) e ∙ take-map size_of n ys

shape_of : (device : Device) (xs ys : List Block) → map size_of xs ≡ map size_of ys → SameShape (filling_of device xs) (filling_of device ys)
shape_of device xs ys e = shapes device unfilled unfilled xs ys e (record { full = refl; current = refl })

pub same_places : (device : Device) (xs ys : List Block) (places : List Place) → map size_of xs ≡ map size_of ys → ArePlaces device xs places → ArePlaces device ys places
same_places device xs ys places e h = record {
  each_placed = h.each_placed ∙ sym (length-map xs size_of) ∙ ap length e ∙ length-map ys size_of;
  places_are = λ k d lt.
      let shape = shape_of device (take (k + 1) xs) (take (k + 1) ys) (take_sizes (k + 1) xs ys e) in
      let at = h.places_are k d lt in
      let one = filling_of device (take (k + 1) xs) in
      let other = filling_of device (take (k + 1) ys) in
      (at.0 ∙ as_many one.full other.full shape.full, at.1 ∙ by_count one.current other.current shape.current);
}

pub same_counts : (device : Device) (xs ys : List Block) → map size_of xs ≡ map size_of ys → counts_of (groups_of (filling_of device xs)) ≡ counts_of (groups_of (filling_of device ys))
same_counts device xs ys e =
    let shape = shape_of device xs ys e in
    let one = filling_of device xs in
    let other = filling_of device ys in
    counts_push one.full other.full one.current other.current shape.full (by_count one.current other.current shape.current)

pub same_count : (device : Device) (xs ys : List Block) → map size_of xs ≡ map size_of ys → length (groups_of (filling_of device xs)) ≡ length (groups_of (filling_of device ys))
same_count device xs ys e = as_many (groups_of (filling_of device xs)) (groups_of (filling_of device ys)) (same_counts device xs ys e)

-- ---- new places change no size

pages_sizes : (move : Place → Place) (pages : List Page) → map size_of (map (λ page. page_block (moved_page move page)) pages) ≡ map size_of (map page_block pages)
pages_sizes move [] = refl
pages_sizes move (page ∷ more) =
    ap (λ s. s ∷ map size_of (map (λ p. page_block (moved_page move p)) more)) (size_moved move page) ∙ ap (λ l. size_of (page_block page) ∷ l) (pages_sizes move more)

pub moved_is : (move : Place → Place) (pages : List Page) (blocks rest : List Block) → blocks ≡ map page_block pages ++ rest → moved_blocks move pages blocks ≡ map (λ page. page_block (moved_page move page)) pages ++ rest
moved_is move pages blocks rest e =
    ap (λ l. map (λ page. page_block (moved_page move page)) pages ++ l) (ap (λ n. drop n blocks) (sym (length-map pages page_block)) ∙ front_rest blocks (map page_block pages) rest e)

pub moved_sizes : (move : Place → Place) (pages : List Page) (blocks rest : List Block) → blocks ≡ map page_block pages ++ rest → map size_of blocks ≡ map size_of (moved_blocks move pages blocks)
moved_sizes move pages blocks rest e =
    ap (map size_of) e ∙ map-append size_of (map page_block pages) rest ∙ ap (λ l. l ++ map size_of rest) (sym (pages_sizes move pages))
    ∙ sym (map-append size_of (map (λ page. page_block (moved_page move page)) pages) rest) ∙ ap (map size_of) (sym (moved_is move pages blocks rest e))

pub put_is : (device : Device) (movable : Movable) (places news : List Place) (moved : List Block) (tracks : List Track) (last : List ℕ) → IsPlaceable movable → All (FitsAlone device) movable.blocks → ArePlaces device movable.blocks places
    → length (groups_of (filling_of device movable.blocks)) ≤ 65535 → news ≡ map (λ start. get_or places start origin) movable.starts → moved ≡ moved_blocks (moved_to movable.numbers news) movable.pages movable.blocks
    → tracks ≡ map track_of (groups_of (filling_of device moved))
    → last ≡ place_text (get_or places (length places - 1) origin).track (get_or places (length places - 1) origin).number → IsPut device movable (record { tracks = tracks; last = last })
put_is device movable places news moved tracks last h fit placed few news_are moved_are packed last_is =
    let all = moved_blocks (moved_to movable.numbers news) movable.pages movable.blocks in
    let whole : tracks ≡ map track_of (groups_of (filling_of device all)) = packed ∙ ap (λ (l : List Block). map track_of (groups_of (filling_of device l))) moved_are in
    record {
      fit = fit;
      places = places;
      placed = placed;
      news = news;
      news_are = news_are;
      tracks = whole;
      few = omega (arith, few, same_count device movable.blocks all (moved_sizes (moved_to movable.numbers news) movable.pages movable.blocks h.rest h.front), ap length whole, length-map (groups_of (filling_of device all)) track_of);
      last_is = last_is ∙ ap (λ n. place_text (get_or places (n - 1) origin).track (get_or places (n - 1) origin).number) placed.each_placed;
    }

pub put_sized : (movable : Movable) (news : List Place) (moved : List Block) → IsPlaceable movable → moved ≡ moved_blocks (moved_to movable.numbers news) movable.pages movable.blocks → All IsBlock moved
put_sized movable news moved h e =
    subst (All IsBlock) (sym e) (all_by_sizes IsBlock block_by_size movable.blocks (moved_blocks (moved_to movable.numbers news) movable.pages movable.blocks) (moved_sizes (moved_to movable.numbers news) movable.pages movable.blocks h.rest h.front) h.sized)

pub put_fits : (device : Device) (movable : Movable) (news : List Place) (moved : List Block) → IsPlaceable movable → All (FitsAlone device) movable.blocks → moved ≡ moved_blocks (moved_to movable.numbers news) movable.pages movable.blocks → All (FitsAlone device) moved
put_fits device movable news moved h fit e =
    subst (All (FitsAlone device)) (sym e)
    (all_by_sizes (FitsAlone device) (fit_by_size device) movable.blocks (moved_blocks (moved_to movable.numbers news) movable.pages movable.blocks) (moved_sizes (moved_to movable.numbers news) movable.pages movable.blocks h.rest h.front) fit)
