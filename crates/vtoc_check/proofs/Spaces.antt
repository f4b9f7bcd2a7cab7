-- The entries and extents of records, one after another.
use Rattle.std.proofs.Common.{◌≡◌, ℕ, ◌+◌, ◌<◌, true, false, List, [], ◌∷◌, ◌++◌, length, map, filter, take, get_or, Bool, cond, sym, ap, ◌∙◌, add-one, append_assoc}
use Rattle.std.specs.Prelude.{nat_lt}
use Rattle.std.specs.List.{flat_map}
use Rattle.std.proofs.lemmas.List.{map-append, append-nil, take_more}
use Rattle.std.proofs.lemmas.List.Elements.{filter-append}
use Rattle.std.proofs.lemmas.Grind.{flat_map-append}
use Rattle.free_map.specs.declared.run.Run.{Run}
use Rattle.dscb_rec.specs.Field.{entry_offset}
use Rattle.volume_model.specs.declared.place.Placed.{Placed}
use Rattle.volume_model.specs.Dscbs.{numbers_below}
use Rattle.volume_model.specs.Space.{entry_at, entries_of, all_entries, all_extents, runs_of}
use Rattle.vtoc_check.specs.Places.{blank}
use Rattle.vtoc_check.specs.FiveRule.{is_five}

-- the entries at the places below one
abbrev pub entries_below : ℕ → List ℕ → ℕ → List Run
entries_below heads bytes n = filter (λ entry. nat_lt 0 entry.len) (map (entry_at heads bytes) (map entry_offset (numbers_below n)))

one_more : (heads : ℕ) (bytes : List ℕ) (n : ℕ) → entries_below heads bytes (n + 1) ≡ entries_below heads bytes n ++ filter (λ entry. nat_lt 0 entry.len) (entry_at heads bytes (entry_offset n) ∷ [])
one_more heads bytes n =
    let test : Run → Bool = λ entry. nat_lt 0 entry.len in
    let offsets : map entry_offset (numbers_below n ++ n ∷ []) ≡ map entry_offset (numbers_below n) ++ entry_offset n ∷ [] = map-append entry_offset (numbers_below n) (n ∷ []) in
    let runs : map (entry_at heads bytes) (map entry_offset (numbers_below n) ++ entry_offset n ∷ []) ≡ map (entry_at heads bytes) (map entry_offset (numbers_below n)) ++ entry_at heads bytes (entry_offset n) ∷ [] =
    map-append (entry_at heads bytes) (map entry_offset (numbers_below n)) (entry_offset n ∷ []) in
    ap (entries_below heads bytes) (add-one n)
    ∙ ap (λ (os : List ℕ). filter test (map (entry_at heads bytes) os)) offsets
    ∙ ap (λ (rs : List Run). filter test rs) runs
    ∙ filter-append test (map (entry_at heads bytes) (map entry_offset (numbers_below n))) (entry_at heads bytes (entry_offset n) ∷ [])

pub entries_more : (heads : ℕ) (bytes : List ℕ) (n offset : ℕ) (run : Run) (first old new : List Run) → offset ≡ entry_offset n → run ≡ entry_at heads bytes offset
    → old ≡ first ++ entries_below heads bytes n → new ≡ old ++ filter (λ entry. nat_lt 0 entry.len) (run ∷ []) → new ≡ first ++ entries_below heads bytes (n + 1)
entries_more heads bytes n offset run first old new at is so_far pushed =
    let entry : run ≡ entry_at heads bytes (entry_offset n) = is ∙ ap (entry_at heads bytes) at in
    pushed ∙ (λ i. so_far i ++ filter (λ one. nat_lt 0 one.len) (entry i ∷ []))
    ∙ append_assoc first (entries_below heads bytes n) (filter (λ one. nat_lt 0 one.len) (entry_at heads bytes (entry_offset n) ∷ []))
    ∙ ap (λ (runs : List Run). first ++ runs) (sym (one_more heads bytes n))

-- ---- of records

pub no_five : (heads : ℕ) (old : List Run) (placed : Placed) → is_five placed ≡ false → old ≡ old ++ all_entries heads (placed ∷ [])
no_five heads old placed e =
    sym (ap (λ (b : Bool). old ++ flat_map (λ (p : Placed). entries_of heads p.bytes) (cond b (placed ∷ []) [])) e ∙ append-nil old)

pub one_five : (heads : ℕ) (placed : Placed) → is_five placed ≡ true → entries_of heads placed.bytes ≡ all_entries heads (placed ∷ [])
one_five heads placed e =
    sym (ap (λ (b : Bool). flat_map (λ (p : Placed). entries_of heads p.bytes) (cond b (placed ∷ []) [])) e ∙ append-nil (entries_of heads placed.bytes))

pub stated_more : (heads : ℕ) (records : List Placed) (i : ℕ) (old new : List Run) → i < length records → old ≡ all_entries heads (take i records)
    → new ≡ old ++ all_entries heads (get_or records i blank ∷ []) → new ≡ all_entries heads (take (i + 1) records)
stated_more heads records i old new lt so_far added =
    let own : Placed → List Run = λ placed. entries_of heads placed.bytes in
    let x : Placed = get_or records i blank in
    added ∙ ap (λ (runs : List Run). runs ++ all_entries heads (x ∷ [])) so_far
    ∙ sym (ap (all_entries heads) (take_more records i blank lt) ∙ ap (flat_map own) (filter-append is_five (take i records) (x ∷ [])) ∙ flat_map-append own (filter is_five (take i records)) (filter is_five (x ∷ [])))

pub extents_more : (heads limit : ℕ) (records : List Placed) (i : ℕ) (old own new : List Run) → i < length records → old ≡ all_extents heads limit (take i records)
    → own ≡ runs_of heads limit (get_or records i blank).bytes → new ≡ old ++ own → new ≡ all_extents heads limit (take (i + 1) records)
extents_more heads limit records i old own new lt so_far is added =
    let each : Placed → List Run = λ placed. runs_of heads limit placed.bytes in
    let x : Placed = get_or records i blank in
    added ∙ (λ j. so_far j ++ is j)
    ∙ sym (ap (all_extents heads limit) (take_more records i blank lt) ∙ flat_map-append each (take i records) (x ∷ []) ∙ ap (λ (runs : List Run). all_extents heads limit (take i records) ++ runs) (append-nil (each x)))
