-- The texts of lines, as they are put together.
use Rattle.std.proofs.Common.{◌≡◌, ◌⊎◌, ℕ, List, [], ◌∷◌, ◌++◌, refl, sym, ap, ◌∙◌, append_assoc, inl, inr}
use Rattle.vol_label.specs.declared.serial.Serial.{Serial}
use Rattle.run_lines.specs.declared.ending.RunEnd.{RunEnd}
use Rattle.run_lines.specs.declared.ending.RunEnd.TheVariants as ends
use Rattle.run_lines.specs.Endings.{status_of, detail_of, stop_head, last_line, IsStop}

-- a journal that is refused
pub status_20 : (end : RunEnd)
    → ((x : ℕ) × end ≡ ends.BadJournal x) ⊎ ((x : ℕ) × (k : Serial) × (f : Serial) × end ≡ ends.WrongUnit x k f) ⊎ ((x : ℕ) × (y : ℕ) × end ≡ ends.JournalSmall x y) → 20 ≡ status_of end
status_20 end (inl h) = ap status_of (sym h.1)
status_20 end (inr (inl h)) = ap status_of (sym h.3)
status_20 end (inr (inr h)) = ap status_of (sym h.2)

-- the last line of a run that was stopped has three pieces
pub stop_is : (end : RunEnd) → IsStop end → stop_head end ++ (detail_of end ++ (10 ∷ [])) ≡ last_line end
stop_is (ends.Whole code) h = absurd h
stop_is (ends.Formatted units room) h = absurd h
stop_is ends.Pool h = refl
stop_is (ends.BadJournal rule) h = refl
stop_is (ends.WrongUnit unit kept found) h = refl
stop_is (ends.JournalSmall need have) h = refl
stop_is (ends.Source input) h = refl
stop_is ends.Sink h = absurd h
stop_is ends.Memory h = absurd h
stop_is ends.Words h = refl
stop_is (ends.Long input) h = refl
stop_is (ends.Wrong input line column) h = refl
stop_is ends.NotBuilt h = refl

-- three pieces from nothing on
pub three_from_none : (a b c d x y z : List ℕ) → a ≡ [] → b ≡ a ++ x → c ≡ b ++ y → d ≡ c ++ z → d ≡ x ++ (y ++ z)
three_from_none a b c d x y z none p q r = r ∙ (λ i. q i ++ z) ∙ (λ i. (p i ++ y) ++ z) ∙ (λ i. ((none i ++ x) ++ y) ++ z) ∙ append_assoc x y z

-- four pieces that were added one after another
pub four_more : (a b c d e x y z w : List ℕ) → b ≡ a ++ x → c ≡ b ++ y → d ≡ c ++ z → e ≡ d ++ w → e ≡ a ++ (((x ++ y) ++ z) ++ w)
four_more a b c d e x y z w p q r s =
    s ∙ (λ i. r i ++ w) ∙ (λ i. (q i ++ z) ++ w) ∙ (λ i. ((p i ++ y) ++ z) ++ w) ∙ regroup
  where
    regroup : (((a ++ x) ++ y) ++ z) ++ w ≡ a ++ (((x ++ y) ++ z) ++ w)
    regroup = simp append_assoc
