-- A text that is read up to some place.
use Rattle.std.proofs.Common.{◌≡◌, ℕ, suc, ◌+◌, ◌-◌, ◌<◌, ◌≤◌, ◌⊎◌, inl, inr, List, [], ◌∷◌, ◌++◌, length, take, drop, set, get_or, replicate, All, refl, sym, ap, subst, ◌∙◌, append_assoc, arith, length-append, length-drop}
use Rattle.std.specs.Char.{to_ascii_uppercase}
use Rattle.std.proofs.lemmas.List.{append-nil, map-append, length-map, take-append-drop, take_more, take_all, take_at, drop-append-le, set_at, nil_from_length, length-take-le, drop_all}
use Rattle.std.proofs.lemmas.List.Elements.{recursion_from_All, All-push}
use Rattle.dsn_filter.specs.Text.{capitals, dotted, IsText, IsBegun, IsFirstWrong}
use Rattle.dsn_filter.specs.Scan.{Continues}
use Rattle.dsn_filter.proofs.Joins.{IsForm, closed, closed_push, joined_push, Next, next, not_closed}

-- the capitals read so far, the last of which are a begun qualifier
pub record IsRead (Form : List ℕ → Type 0) (text part : List ℕ) : Type 0 where
  pub over : List (List ℕ)
  pub each : All Form over
  pub joins : text ≡ closed over ++ part
  pub begun : (part ≡ []) ⊎ Form part
  pub short : length text ≤ 44
  pub room : length part ≡ 0 → length text ≤ 43

pub read_dot : (Form : List ℕ → Type 0) (text part : List ℕ) → IsRead Form text part → 0 < length part → length text < 43 → IsRead Form (text ++ (46 ∷ [])) []
read_dot Form text part h some few = record {
  over = h.over ++ (part ∷ []);
  each = All-push Form h.over part h.each (elim h.begun [ inl e ↦ (let none : length part ≡ 0 = ap length e in absurd (omega arith)) | inr f ↦ f ]);
  joins =
      ap (λ (t : List ℕ). t ++ (46 ∷ [])) h.joins ∙ append_assoc (closed h.over) part (46 ∷ []) ∙ sym (closed_push h.over part)
      ∙ sym (append-nil (closed (h.over ++ (part ∷ []))));
  begun = inl refl;
  short = omega (arith, length-append text (46 ∷ []));
  room = λ e. omega (arith, length-append text (46 ∷ []));
}

pub read_more : (Form : List ℕ → Type 0) (text part : List ℕ) (b : ℕ) → IsRead Form text part → length text < 44 → Form (part ++ (b ∷ [])) → IsRead Form (text ++ (b ∷ [])) (part ++ (b ∷ []))
read_more Form text part b h few right = record {
  over = h.over;
  each = h.each;
  joins = ap (λ (t : List ℕ). t ++ (b ∷ [])) h.joins ∙ append_assoc (closed h.over) part (b ∷ []);
  begun = inr right;
  short = omega (arith, length-append text (b ∷ []));
  room = λ e. absurd (omega (arith, length-append part (b ∷ [])));
}

-- ---- what is read is begun

spelled_by : (Form : List ℕ → Type 0) (text : List ℕ) (over : List (List ℕ)) (part : List ℕ) → All Form over → Form part → length text ≤ 44 → capitals text ≡ closed over ++ part → IsText Form text
spelled_by Form text over part each right few joins = (
  over ++ (part ∷ []),
  record {
    each = All-push Form over part each right;
    some = omega (arith, length-append over (part ∷ []));
    short = few;
    joins = joins ∙ sym (joined_push over part);
  },
)

module _ (Form : List ℕ → Type 0) (form : IsForm Form) where
  pub is_text : (text part : List ℕ) → IsRead Form (capitals text) part → 0 < length part → IsText Form text
  is_text text part h some =
      spelled_by Form text h.over part h.each (elim h.begun [ inl e ↦ (let none : length part ≡ 0 = ap length e in absurd (omega arith)) | inr f ↦ f ])
      (omega (arith, h.short, length-map text to_ascii_uppercase)) h.joins

  begun_by : (text part : List ℕ) → IsRead Form (capitals text) part → (part ≡ []) ⊎ Form part → IsBegun (IsText Form) text
  begun_by text part h (inl e) = (
    65 ∷ [],
    spelled_by Form (text ++ (65 ∷ [])) h.over (65 ∷ []) h.each form.letter
        (let none : length part ≡ 0 = ap length e in omega (arith, h.room none, length-append text (65 ∷ []), length-map text to_ascii_uppercase))
        (
        map-append to_ascii_uppercase text (65 ∷ [])
        ∙ ap (λ (t : List ℕ). t ++ (65 ∷ [])) (h.joins ∙ ap (λ (t : List ℕ). closed h.over ++ t) e ∙ append-nil (closed h.over))
        ),
  )
  begun_by text part h (inr f) = (
    [],
    spelled_by Form (text ++ []) h.over part h.each f (omega (arith, h.short, length-append {A = ℕ} text [], length-map text to_ascii_uppercase))
        (map-append to_ascii_uppercase text [] ∙ append-nil (capitals text) ∙ h.joins),
  )

  pub is_begun : (text part : List ℕ) → IsRead Form (capitals text) part → IsBegun (IsText Form) text
  is_begun text part h = begun_by text part h h.begun

  -- ---- what cannot follow

  goes_on : (text part : List ℕ) (b : ℕ) (more : List ℕ) → IsRead Form (capitals text) part → IsText Form ((text ++ (b ∷ [])) ++ more) → Next Form part (to_ascii_uppercase b) (length (capitals more))
  goes_on text part b more h (spelled, right) =
      let upper : ℕ = to_ascii_uppercase b in
      let split : capitals ((text ++ (b ∷ [])) ++ more) ≡ (capitals text ++ (upper ∷ [])) ++ capitals more =
      map-append to_ascii_uppercase (text ++ (b ∷ [])) more ∙ ap (λ (t : List ℕ). t ++ capitals more) (map-append to_ascii_uppercase text (b ∷ [])) in
      let whole : closed h.over ++ (part ++ (upper ∷ capitals more)) ≡ dotted spelled =
      sym (append_assoc (closed h.over) part (upper ∷ capitals more)) ∙ ap (λ (t : List ℕ). t ++ (upper ∷ capitals more)) (sym h.joins)
      ∙ sym (append_assoc (capitals text) (upper ∷ []) (capitals more)) ∙ sym split ∙ right.joins in
      next Form form h.over spelled part upper (capitals more) (recursion_from_All Form h.over h.each) (recursion_from_All Form spelled right.each) right.some h.begun whole

  continues_by : (text part : List ℕ) (b : ℕ) (more : List ℕ) → length ((text ++ (b ∷ [])) ++ more) ≤ 44 → Next Form part (to_ascii_uppercase b) (length (capitals more)) → Continues Form part (length text) (to_ascii_uppercase b)
  continues_by text part b more few (inl h) =
      inl (h.0, h.1, omega (arith, h.2, few, length-map more to_ascii_uppercase, length-append (text ++ (b ∷ [])) more, length-append text (b ∷ [])))
  continues_by text part b more few (inr h) = inr (h.0, omega (arith, few, length-append (text ++ (b ∷ [])) more, length-append text (b ∷ [])), h.1)

  pub not_begun : (text part : List ℕ) (b : ℕ) → IsRead Form (capitals text) part → ¬ Continues Form part (length text) (to_ascii_uppercase b) → ¬ IsBegun (IsText Form) (text ++ (b ∷ []))
  not_begun text part b h stops (more, right) = stops (continues_by text part b more right.1.short (goes_on text part b more h right))

  pub not_ended : (text part : List ℕ) → IsRead Form (capitals text) part → length part ≡ 0 → ¬ IsText Form text
  not_ended text part h none (spelled, right) =
      let part-is : part ≡ [] = nil_from_length part none in
      not_closed Form form h.over spelled (recursion_from_All Form h.over h.each) (recursion_from_All Form spelled right.each) right.some
      (sym (append-nil (closed h.over)) ∙ ap (λ (t : List ℕ). closed h.over ++ t) (sym part-is) ∙ sym h.joins ∙ right.joins)

-- ---- the refusal

-- where the next byte can't follow, the place before it is the first wrong one
pub first_wrong : (IsRight : List ℕ → Type 0) (text : List ℕ) (place : ℕ) → place < length text → IsBegun IsRight (take place text) → ¬ IsBegun IsRight (take (place + 1) text) → IsFirstWrong IsRight text place
first_wrong IsRight text place lt begun stops = record {
  wrong = λ right. stops (drop (place + 1) text, subst IsRight (sym (take-append-drop (place + 1) text)) right);
  within = omega arith;
  begun = begun;
  ends = λ _. stops;
}

pub ends_early : (IsRight : List ℕ → Type 0) (text : List ℕ) → IsBegun IsRight text → ¬ IsRight text → IsFirstWrong IsRight text (length text)
ends_early IsRight text begun wrong = record {
  wrong = wrong;
  within = omega arith;
  begun = subst (λ (t : List ℕ). IsBegun IsRight t) (sym (take_all (length text) text (omega arith))) begun;
  ends = λ lt. absurd (omega arith);
}

-- ---- the scan

-- so many bytes are read, the last qualifier of them from this start, and their capitals are kept
pub record IsReading (Form : List ℕ → Type 0) (text : List ℕ) (place start : ℕ) (capital : List ℕ) : Type 0 where
  pub read : IsRead Form (capitals (take place text)) (drop start (capitals (take place text)))
  pub starts : start ≤ place
  pub few : place ≤ 44
  pub kept : capital ≡ capitals (take place text) ++ replicate (44 - place) 0

module _ (Form : List ℕ → Type 0) (text : List ℕ) (place start : ℕ) (capital : List ℕ) (reading : IsReading Form text place start capital) (lt : place < length text) where
  front_len : length (capitals (take place text)) ≡ place
  front_len = length-map (take place text) to_ascii_uppercase ∙ length-take-le place text (omega arith)

  part_is : drop start (take place capital) ≡ drop start (capitals (take place text))
  part_is =
      ap (λ (t : List ℕ). drop start t)
      (ap (λ (t : List ℕ). take place t) reading.kept ∙ take_at (capitals (take place text)) (replicate (44 - place) 0) place front_len)

  pub begun_part : (drop start (take place capital) ≡ []) ⊎ Form (drop start (take place capital))
  begun_part = subst (λ (t : List ℕ). (t ≡ []) ⊎ Form t) (sym part_is) reading.read.begun

  byte : ℕ
  byte = to_ascii_uppercase (get_or text place 0)

  one_more_is : capitals (take (place + 1) text) ≡ capitals (take place text) ++ (to_ascii_uppercase (get_or text place 0) ∷ [])
  one_more_is = ap capitals (take_more text place 0 lt) ∙ map-append to_ascii_uppercase (take place text) (get_or text place 0 ∷ [])

  kept_more : (b : ℕ) → b ≡ to_ascii_uppercase (get_or text place 0) → place < 44 → set capital place b ≡ capitals (take (place + 1) text) ++ replicate (44 - (place + 1)) 0
  kept_more b is few =
      let zeros : List ℕ = replicate (44 - (place + 1)) 0 in
      let count : 44 - place ≡ suc (44 - (place + 1)) = omega arith in
      let was : capital ≡ capitals (take place text) ++ (0 ∷ zeros) = reading.kept ∙ ap (λ (n : ℕ). capitals (take place text) ++ replicate n 0) count in
      ap (λ (t : List ℕ). set t place b) was ∙ set_at (capitals (take place text)) 0 zeros b place front_len
      ∙ ap (λ (c : ℕ). capitals (take place text) ++ (c ∷ zeros)) is
      ∙ sym (append_assoc (capitals (take place text)) (to_ascii_uppercase (get_or text place 0) ∷ []) zeros)
      ∙ ap (λ (t : List ℕ). t ++ zeros) (sym one_more_is)

  pub reading_dot : (b : ℕ) → b ≡ to_ascii_uppercase (get_or text place 0) → b ≡ 46 → Continues Form (drop start (take place capital)) place b → IsReading Form text (place + 1) (place + 1) (set capital place b)
  reading_dot b is dot (inr h) = absurd (h.0 dot)
  reading_dot b is dot (inl h) =
      let t : List ℕ = capitals (take place text) in
      let some : 0 < length (drop start t) = subst (λ (q : List ℕ). 0 < length q) part_is h.1 in
      let more : capitals (take (place + 1) text) ≡ t ++ (46 ∷ []) = one_more_is ∙ ap (λ (c : ℕ). t ++ (c ∷ [])) (sym is ∙ dot) in
      let gone : drop (place + 1) (capitals (take (place + 1) text)) ≡ [] =
      drop_all (place + 1) (capitals (take (place + 1) text)) (omega (arith, ap length more, length-append t (46 ∷ []), front_len)) in
      record {
        read = subst (λ (q : List ℕ). IsRead Form (capitals (take (place + 1) text)) q) (sym gone)
            (subst (λ (u : List ℕ). IsRead Form u []) (sym more) (read_dot Form t (drop start t) reading.read some (omega (arith, h.2, front_len))));
        starts = omega arith;
        few = omega (arith, h.2);
        kept = kept_more b is (omega (arith, h.2));
      }

  pub reading_more : (b : ℕ) → b ≡ to_ascii_uppercase (get_or text place 0) → (b ≡ 46 → ⊥) → Continues Form (drop start (take place capital)) place b → IsReading Form text (place + 1) start (set capital place b)
  reading_more b is other (inl h) = absurd (other h.0)
  reading_more b is other (inr h) =
      let t : List ℕ = capitals (take place text) in
      let right : Form (drop start t ++ (b ∷ [])) = subst (λ (q : List ℕ). Form (q ++ (b ∷ []))) part_is h.2 in
      let more : capitals (take (place + 1) text) ≡ t ++ (b ∷ []) = one_more_is ∙ ap (λ (c : ℕ). t ++ (c ∷ [])) (sym is) in
      let part : drop start (capitals (take (place + 1) text)) ≡ drop start t ++ (b ∷ []) =
      ap (λ (u : List ℕ). drop start u) more ∙ drop-append-le start t (b ∷ []) (omega (arith, reading.starts, front_len)) in
      record {
        read = subst (λ (q : List ℕ). IsRead Form (capitals (take (place + 1) text)) q) (sym part)
            (subst (λ (u : List ℕ). IsRead Form u (drop start t ++ (b ∷ []))) (sym more) (read_more Form t (drop start t) b reading.read (omega (arith, h.1, front_len)) right));
        starts = omega (arith, reading.starts);
        few = omega (arith, h.1);
        kept = kept_more b is h.1;
      }

  pub reading_stops : IsForm Form → (b : ℕ) → b ≡ to_ascii_uppercase (get_or text place 0) → ¬ Continues Form (drop start (take place capital)) place b → IsFirstWrong (IsText Form) text place
  reading_stops form b is stops =
      let t : List ℕ = take place text in
      let here : ¬ Continues Form (drop start (capitals t)) (length t) (to_ascii_uppercase (get_or text place 0)) =
      λ h. stops (subst (λ (q : List ℕ). Continues Form q place b) (sym part_is)
      (subst (λ (n : ℕ). Continues Form (drop start (capitals t)) n b) (length-take-le place text (omega arith))
      (subst (λ (c : ℕ). Continues Form (drop start (capitals t)) (length t) c) (sym is) h))) in
      first_wrong (IsText Form) text place lt (is_begun Form form t (drop start (capitals t)) reading.read)
      (subst (λ (u : List ℕ). ¬ IsBegun (IsText Form) u) (sym (take_more text place 0 lt)) (not_begun Form form t (drop start (capitals t)) (get_or text place 0) reading.read here))

module _ (Form : List ℕ → Type 0) (form : IsForm Form) (text : List ℕ) (start : ℕ) (capital : List ℕ) (reading : IsReading Form text (length text) start capital) where
  all_read : IsRead Form (capitals text) (drop start (capitals text))
  all_read = subst (λ (t : List ℕ). IsRead Form (capitals t) (drop start (capitals t))) (take_all (length text) text (omega arith)) reading.read

  pub reading_ends_early : start ≡ length text → IsFirstWrong (IsText Form) text (length text)
  reading_ends_early at =
      ends_early (IsText Form) text (is_begun Form form text (drop start (capitals text)) all_read)
      (not_ended Form form text (drop start (capitals text)) all_read (omega (arith, at, length-drop start (capitals text), length-map text to_ascii_uppercase)))

  pub reading_ends : (start ≡ length text → ⊥) → IsText Form text
  reading_ends other =
      is_text Form form text (drop start (capitals text)) all_read (omega (arith, other, reading.starts, length-drop start (capitals text), length-map text to_ascii_uppercase))

  pub capital_is : capital ≡ capitals text ++ replicate (44 - length text) 0
  capital_is = reading.kept ∙ ap (λ (t : List ℕ). capitals t ++ replicate (44 - length text) 0) (take_all (length text) text (omega arith))
