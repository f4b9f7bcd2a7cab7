-- Changes that are rendered one after another, and their entries.
use Rattle.std.proofs.Common.{◌≡◌, ◌⊎◌, inl, inr, ℕ, zero, suc, ◌+◌, ◌<◌, ◌≤◌, List, [], ◌∷◌, ◌++◌, length, map, min, All, take, get_or, Some, refl, sym, ap, subst, ◌∙◌, arith, append_assoc}
use Rattle.std.specs.Prelude.{slice_get}
use Rattle.std.proofs.lemmas.Bool.{cases_lt}
use Rattle.std.proofs.lemmas.List.{append-nil, length-take, take_more}
use Rattle.std.proofs.lemmas.List.Elements.{All-nil, All-cons, All-head, All-tail, All-take}
use Rattle.redo_core.specs.declared.entries.Entry.{Entry}
use Rattle.vtoc_core.specs.declared.volume.Volume.{Volume}
use Rattle.volume_change.specs.declared.change.Change.{Change}
use Rattle.unit_steps.specs.vtoc_render.declared.change.Rendered.{Rendered}
use Rattle.unit_steps.specs.vtoc_render.Loads.{LoadsFrom}
use Rattle.unit_steps.specs.vtoc_render.Next.{IsNext, MayChange}
use Rattle.unit_load.specs.declared.state.UnitState.{UnitState}
use Rattle.unit_steps.specs.Plans.{IsLoadedAt}
use Rattle.unit_steps.specs.Rendering.{WasRendered, WereRendered, entry_for, entries_of}
use Rattle.unit_session.specs.declared.fault.PlanFault.{PlanFault}
use Rattle.unit_session.specs.declared.fault.PlanFault.TheVariants as faults
use Rattle.unit_steps.proofs.OneChange.{same_volume}
use Rattle.unit_session.specs.Planned.{HasRoom, HaveVolumes, IsRenderFault, AreRenderFault}
use Rattle.unit_session.proofs.Room.{next_has_room}

-- ---- volumes

-- a change may be made on a volume that was loaded from its kept slots
abbrev HasVolume : List UnitState → List (List ℕ) → ℕ × Change → Type 0
HasVolume units vtocs change =
    (volume : Volume) × (slots : List ℕ) × IsLoadedAt units change.0 volume × (slice_get vtocs change.0 ≡ Some slots) × LoadsFrom volume slots × MayChange volume change.1

pub have_one : (units : List UnitState) (vtocs : List (List ℕ)) (changes : List (ℕ × Change)) (i : ℕ) (change : ℕ × Change) → i < length changes → change ≡ get_or changes i change
    → HaveVolumes units vtocs changes → HaveVolumes units vtocs ((change.0, change.1) ∷ [])
have_one units vtocs changes i change less is have =
    let P : ℕ × Change → Type 0 = λ c. HaveVolumes units vtocs (c ∷ []) in
    let Q : ℕ × Change → Type 0 = HasVolume units vtocs in
    subst P (sym is) (All-cons Q (get_or changes i change) [] (have i change less) (All-nil Q))

-- ---- rendered changes

were_push : (units : List UnitState) (vtocs : List (List ℕ)) (changes : List (ℕ × Change)) (rendered : List Rendered) (change : ℕ × Change) (one : Rendered)
    → WereRendered units vtocs changes rendered → WasRendered units vtocs change.0 change.1 one → WereRendered units vtocs (changes ++ (change ∷ [])) (rendered ++ (one ∷ []))
were_push units vtocs [] [] change one were was = (was, tt)
were_push units vtocs [] (r ∷ rendered) change one were was = absurd were
were_push units vtocs (c ∷ changes) [] change one were was = absurd were
were_push units vtocs (c ∷ changes) (r ∷ rendered) change one were was = (were.0, were_push units vtocs changes rendered change one were.1 was)

pub were_more : (units : List UnitState) (vtocs : List (List ℕ)) (changes : List (ℕ × Change)) (i : ℕ) (change : ℕ × Change) (rendered more : List Rendered) (one : Rendered)
    → i < length changes → change ≡ get_or changes i change → more ≡ rendered ++ (one ∷ []) → WereRendered units vtocs (take i changes) rendered
    → WasRendered units vtocs change.0 change.1 one → WereRendered units vtocs (take (i + 1) changes) more
were_more units vtocs changes i change rendered more one less is added were was =
    let front : take (i + 1) changes ≡ take i changes ++ (change ∷ []) = take_more changes i change less ∙ ap (λ (c : ℕ × Change). take i changes ++ (c ∷ [])) (sym is) in
    subst (λ (l : List Rendered). WereRendered units vtocs (take (i + 1) changes) l) (sym added)
    (subst (λ (l : List (ℕ × Change)). WereRendered units vtocs l (rendered ++ (one ∷ []))) (sym front) (were_push units vtocs (take i changes) rendered change one were was))

-- ---- a change that was not rendered

parts_at : {X : Type 0} (xs : List X) (i : ℕ) (x : X) → i < length xs → x ≡ get_or xs i x → (back : List X) × (xs ≡ take i xs ++ (x ∷ back))
parts_at [] i x less is = absurd (omega (arith, less))
parts_at (y ∷ xs) zero x less is = (xs, ap (λ z. z ∷ xs) (sym is))
parts_at (y ∷ xs) (suc i) x less is = let rest = parts_at xs i x (omega (arith, less)) is in (rest.0, ap (λ l. y ∷ l) rest.1)

one_has_room : (units : List UnitState) (vtocs : List (List ℕ)) (change : ℕ × Change) (one : Rendered) → HasVolume units vtocs change
    → WasRendered units vtocs change.0 change.1 one → HasRoom units change
one_has_room units vtocs change one (at, slots, here, kept, loads, may) was volume loaded =
    next_has_room volume one.next slots change.1 (subst (λ (v : Volume). LoadsFrom v slots) (same_volume units change.0 at volume here loaded) loads)
    (subst (λ (v : Volume). IsNext v change.1 one.next) (same_volume units change.0 was.volume volume was.loaded loaded) was.next)

-- there was room for each change that was rendered
have_room : (units : List UnitState) (vtocs : List (List ℕ)) (changes : List (ℕ × Change)) (rendered : List Rendered) → HaveVolumes units vtocs changes
    → WereRendered units vtocs changes rendered → All (HasRoom units) changes
have_room units vtocs [] rendered have were = All-nil (HasRoom units)
have_room units vtocs (change ∷ changes) [] have were = absurd were
have_room units vtocs (change ∷ changes) (one ∷ rendered) have were =
    All-cons (HasRoom units) change changes (one_has_room units vtocs change one (All-head (HasVolume units vtocs) change changes have) were.0)
    (have_room units vtocs changes rendered (All-tail (HasVolume units vtocs) change changes have) were.1)

pub fault_at : (units : List UnitState) (vtocs : List (List ℕ)) (changes : List (ℕ × Change)) (i : ℕ) (change : ℕ × Change) (rendered : List Rendered) (fault : PlanFault)
    → i < length changes → change ≡ get_or changes i change → HaveVolumes units vtocs changes → WereRendered units vtocs (take i changes) rendered
    → IsRenderFault units change.0 change.1 fault → AreRenderFault units changes fault
fault_at units vtocs changes i change rendered (faults.Full need free) less is have were fault =
    let parts = parts_at changes i change less is in
    record {
      front = take i changes;
      unit = change.0;
      change = change.1;
      back = parts.0;
      changes_are = parts.1;
      earlier = have_room units vtocs (take i changes) rendered (All-take (HasVolume units vtocs) i changes have) were;
      volume = fault.0;
      loaded = fault.1;
      full = fault.2;
    }
fault_at units vtocs changes i change rendered faults.Indexed less is have were fault = (i, change, less, sym is, fault)
fault_at units vtocs changes i change rendered faults.NoMemory less is have were fault = tt
fault_at units vtocs changes i change rendered faults.Pool less is have were fault = fault
fault_at units vtocs changes i change rendered (faults.Bad unit track) less is have were fault = fault
fault_at units vtocs changes i change rendered faults.Long less is have were fault = fault

-- ---- entries

entries_push : (changes : List (ℕ × Change)) (rendered : List Rendered) (change : ℕ × Change) (one : Rendered) → length changes ≡ length rendered
    → entries_of (changes ++ (change ∷ [])) (rendered ++ (one ∷ [])) ≡ entries_of changes rendered ++ map (entry_for change.0) one.blocks
entries_push [] [] change one long = append-nil (map (entry_for change.0) one.blocks)
entries_push [] (r ∷ rendered) change one long = absurd (omega (arith, long))
entries_push (c ∷ changes) [] change one long = absurd (omega (arith, long))
entries_push (c ∷ changes) (r ∷ rendered) change one long =
    ap (λ (l : List Entry). map (entry_for c.0) r.blocks ++ l) (entries_push changes rendered change one (omega (arith, long)))
    ∙ sym (append_assoc (map (entry_for c.0) r.blocks) (entries_of changes rendered) (map (entry_for change.0) one.blocks))

pub entries_more : (changes : List (ℕ × Change)) (rendered : List Rendered) (place : ℕ) (change : ℕ × Change) (one : Rendered) (old new : List Entry) → place < length changes
    → place < length rendered → change ≡ get_or changes place change → one ≡ get_or rendered place one → new ≡ old ++ map (entry_for change.0) one.blocks
    → old ≡ entries_of (take place changes) (take place rendered) → new ≡ entries_of (take (place + 1) changes) (take (place + 1) rendered)
entries_more changes rendered place change one old new less within is is' added so =
    let front : take (place + 1) changes ≡ take place changes ++ (change ∷ []) =
    take_more changes place change less ∙ ap (λ (c : ℕ × Change). take place changes ++ (c ∷ [])) (sym is) in
    let more : take (place + 1) rendered ≡ take place rendered ++ (one ∷ []) =
    take_more rendered place one within ∙ ap (λ (r : Rendered). take place rendered ++ (r ∷ [])) (sym is') in
    let long : length (take place changes) ≡ length (take place rendered) = omega (arith, length-take place changes, length-take place rendered, less, within) in
    let pushed = entries_push (take place changes) (take place rendered) change one long in
    added ∙ (ap (λ (l : List Entry). l ++ map (entry_for change.0) one.blocks) so
    ∙ (sym pushed ∙ (λ i. entries_of (sym front i) (sym more i))))

entries_end : (changes : List (ℕ × Change)) (rendered : List Rendered) (place : ℕ) → (length changes ≤ place) ⊎ (length rendered ≤ place)
    → entries_of (take place changes) (take place rendered) ≡ entries_of changes rendered
entries_end [] rendered zero past = refl
entries_end [] rendered (suc place) past = refl
entries_end (c ∷ changes) [] zero past = refl
entries_end (c ∷ changes) [] (suc place) past = refl
entries_end (c ∷ changes) (r ∷ rendered) zero past = absurd (elim past [ inl a ↦ omega (arith, a) | inr b ↦ omega (arith, b) ])
entries_end (c ∷ changes) (r ∷ rendered) (suc place) past =
    ap (λ (l : List Entry). map (entry_for c.0) r.blocks ++ l)
    (entries_end changes rendered place (elim past [ inl a ↦ inl (omega (arith, a)) | inr b ↦ inr (omega (arith, b)) ]))

pub entries_whole : (changes : List (ℕ × Change)) (rendered : List Rendered) (place shorter : ℕ) (entries : List Entry) → (length changes ≤ shorter) ⊎ (length rendered ≤ shorter) → shorter ≤ place
    → entries ≡ entries_of (take place changes) (take place rendered) → entries ≡ entries_of changes rendered
entries_whole changes rendered place shorter entries short past so =
    so ∙ entries_end changes rendered place (elim short [ inl a ↦ inl (omega (arith, a, past)) | inr b ↦ inr (omega (arith, b, past)) ])

pub shorter_of : (a b least : ℕ) → least ≡ min a b → (a ≤ least) ⊎ (b ≤ least)
shorter_of a b least is = elim (cases_lt a b) [ inl less ↦ inl (omega (arith, is, less)) | inr more ↦ inr (omega (arith, is, more)) ]
