-- The fields of DSCBs after they were written.
use Rattle.std.proofs.Common.{◌≡◌, ◌⊎◌, ℕ, ◌+◌, ◌-◌, ◌*◌, ◌<◌, ◌≤◌, List, length, get_or, Bool, true, false, cond, refl, sym, ap, ◌∙◌, arith, inl, inr}
use Rattle.std.specs.Prelude.{nat_lt}
use Rattle.std.proofs.lemmas.Bool.Decides.{nat_tests}
use Rattle.dscb_rec.specs.declared.field.Entry5.{Entry5}
use Rattle.dscb_rec.specs.Field.{entry_text, entry_offset}
use Rattle.ckd_image.specs.Body.{over}
use Rattle.vtoc_core.specs.Edit.{no_entry, IsBesideEntries, AreEntriesPut}
use Rattle.vtoc_core.proofs.Overs.{get_before, get_within, get_behind}
use Rattle.std.proofs.lemmas.Bool.{cases_lt}
use Rattle.ckd_image.proofs.Overs.{over_length}

-- the entries below a place are written
pub record AreSoFar (count : ℕ) (entries : List Entry5) (old new : List ℕ) : Type 0 where
  pub long : length new ≡ length old
  pub each : (place byte : ℕ) → place < count → byte < 5 → get_or new (entry_offset place + byte) 0 ≡ get_or (entry_text (get_or entries place no_entry)) byte 0
  pub kept : (k : ℕ) → IsBesideEntries k → get_or new k 0 ≡ get_or old k 0

pub none_so_far : (entries : List Entry5) (old : List ℕ) → AreSoFar 0 entries old old
none_so_far entries old = record { long = refl; each = λ place byte less _. absurd (omega (arith, less)); kept = λ k beside. refl }

-- where entries stand
low : (place : ℕ) → place < 8 → entry_offset place ≡ 4 + 5 * place
low place less = ap (λ (b : Bool). cond b (4 + 5 * place) (45 + 5 * (place - 8))) (is place less)
  where
    is : (n : ℕ) → n < 8 → nat_lt n 8 ≡ true
    is n p = grind (arith, nat_tests)

high : (place : ℕ) → 8 ≤ place → entry_offset place ≡ 45 + 5 * (place - 8)
high place more = ap (λ (b : Bool). cond b (4 + 5 * place) (45 + 5 * (place - 8))) (is place more)
  where
    is : (n : ℕ) → 8 ≤ n → nat_lt n 8 ≡ false
    is n p = grind (arith, nat_tests)

pub offset_within : (place : ℕ) → place < 26 → entry_offset place + 5 ≤ 135
offset_within place less = by (cases_lt place 8)
  where
    by : ((place < 8) ⊎ (8 ≤ place)) → entry_offset place + 5 ≤ 135
    by (inl p) = omega (arith, low place p, p)
    by (inr p) = omega (arith, high place p, p, less)

-- an entry before another ends before it
before_other : (a b : ℕ) → a < b → b < 26 → entry_offset a + 5 ≤ entry_offset b
before_other a b less within = by (cases_lt a 8) (cases_lt b 8)
  where
    by : ((a < 8) ⊎ (8 ≤ a)) → ((b < 8) ⊎ (8 ≤ b)) → entry_offset a + 5 ≤ entry_offset b
    by (inl p) (inl q) = omega (arith, low a p, low b q, less)
    by (inl p) (inr q) = omega (arith, low a p, high b q, less, p, q)
    by (inr p) (inl q) = absurd (omega (arith, less, p, q))
    by (inr p) (inr q) = omega (arith, high a p, high b q, less, p, q)

-- bytes beside all entries are before an entry or behind it
beside : (place k : ℕ) → place < 26 → IsBesideEntries k → (k < entry_offset place) ⊎ (entry_offset place + 5 ≤ k)
beside place k within (inl p) = by (cases_lt place 8)
  where
    by : ((place < 8) ⊎ (8 ≤ place)) → (k < entry_offset place) ⊎ (entry_offset place + 5 ≤ k)
    by (inl q) = inl (omega (arith, low place q, p))
    by (inr q) = inl (omega (arith, high place q, p))
beside place k within (inr (inl p)) = by (cases_lt place 8)
  where
    by : ((place < 8) ⊎ (8 ≤ place)) → (k < entry_offset place) ⊎ (entry_offset place + 5 ≤ k)
    by (inl q) = inr (omega (arith, low place q, p, q))
    by (inr q) = inl (omega (arith, high place q, p))
beside place k within (inr (inr p)) = inr (omega (arith, offset_within place within, p))

-- one entry more
pub one_more : (count : ℕ) (entries : List Entry5) (old mid new : List ℕ) (entry : Entry5) → count < 26 → length old ≡ 140 → entry ≡ get_or entries count no_entry
    → new ≡ over (entry_offset count) (entry_text entry) mid → AreSoFar count entries old mid → AreSoFar (count + 1) entries old new
one_more count entries old mid new entry within long is made h = record {
  long = ap length made ∙ over_length (entry_offset count) (entry_text entry) mid fits ∙ h.long;
  each = λ place byte less in_entry. read place byte in_entry (cases_lt place count) less;
  kept = λ k out. ap (λ (bytes : List ℕ). get_or bytes k 0) made ∙ still k (beside count k within out) ∙ h.kept k out;
}
  where
    fits : entry_offset count + 5 ≤ length mid
    fits = omega (arith, offset_within count within, h.long, long)

    still : (k : ℕ) → ((k < entry_offset count) ⊎ (entry_offset count + 5 ≤ k)) → get_or (over (entry_offset count) (entry_text entry) mid) k 0 ≡ get_or mid k 0
    still k (inl p) = get_before (entry_offset count) (entry_text entry) mid k fits p
    still k (inr p) = get_behind (entry_offset count) (entry_text entry) mid k fits p

    read : (place byte : ℕ) → byte < 5 → ((place < count) ⊎ (count ≤ place)) → place < count + 1 → get_or new (entry_offset place + byte) 0 ≡ get_or (entry_text (get_or entries place no_entry)) byte 0
    read place byte in_entry (inl earlier) less =
        ap (λ (bytes : List ℕ). get_or bytes (entry_offset place + byte) 0) made
        ∙ still (entry_offset place + byte) (inl (omega (arith, before_other place count earlier within, in_entry)))
        ∙ h.each place byte earlier in_entry
    read place byte in_entry (inr later) less =
        let here : place ≡ count = omega (arith, later, less) in
        ap (λ (bytes : List ℕ). get_or bytes (entry_offset place + byte) 0) made
        ∙ ap (λ (n : ℕ). get_or (over (entry_offset count) (entry_text entry) mid) (entry_offset n + byte) 0) here
        ∙ get_within (entry_offset count) (entry_text entry) mid byte fits in_entry
        ∙ ap (λ (e : Entry5). get_or (entry_text e) byte 0) is
        ∙ ap (λ (n : ℕ). get_or (entry_text (get_or entries n no_entry)) byte 0) (sym here)

pub all_put : (entries : List Entry5) (old new : List ℕ) (count : ℕ) → count ≡ 26 → AreSoFar count entries old new → AreEntriesPut entries old new
all_put entries old new count all h = record { long = h.long; each = λ place byte less in_entry. h.each place byte (omega (arith, less, all)) in_entry; kept = h.kept }
