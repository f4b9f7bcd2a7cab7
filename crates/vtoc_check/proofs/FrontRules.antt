-- The format 4 of a VTOC, and the refusals of the first three rules.
use Rattle.std.proofs.Common.{◌≡◌, ℕ, ◌≤◌, List, length, refl, sym, subst, Option, Some, None}
use Rattle.std.specs.Prelude.{MatchOption, IfSome, IfNone}
use Rattle.ckd_image.specs.declared.head.Head.{Head}
use Rattle.ckd_image.specs.declared.track.Track.{Track}
use Rattle.ckd_image.specs.declared.track.Rec.{Rec}
use Rattle.ckd_image.specs.declared.track.Cchhr.{Cchhr}
use Rattle.ckd_image.specs.Address.{IsAddress}
use Rattle.ckd_image.specs.Device.{heads_of}
use Rattle.ckd_image.specs.Track.{IsTrackText}
use Rattle.ckd_image.proofs.OneText.{one_text}
use Rattle.volume_model.specs.declared.place.Breach.{Breach}
use Rattle.volume_model.specs.declared.rule.VtocRule.{VtocRule}
use Rattle.volume_model.specs.declared.rule.VtocRule.TheVariants as rules
use Rattle.volume_model.specs.Rules.{number_of}
use Rattle.volume_model.specs.Space.{track_at}
use Rattle.volume_model.specs.Sound.{Slots, IsFormat4, IsFirstRuleBroken}
use Rattle.vtoc_check.specs.declared.fault.VtocFault.{VtocFault}
use Rattle.vtoc_check.specs.declared.fault.VtocFault.TheVariants.{BadVtoc, Indexed, VtocFull, NoMemory}
use Rattle.vtoc_check.specs.Faults.{IsToldFault}
use Rattle.vtoc_check.specs.Front.{IsFormat4Among, IsFront, IsFrontBreach}

-- ---- refusals

pub told_fault : (is_breach : Breach → Type 0) (told : Breach) (fault : VtocFault) → fault ≡ BadVtoc told.place.track told.place.record_number (number_of told.rule) → is_breach told → IsToldFault is_breach fault
told_fault is_breach told fault e h =
    let P : VtocFault → Type 0 = λ f. IsToldFault is_breach f in
    subst P (sym e) (told, h, refl, refl, refl)

pub told_weaker : (is_breach is_other : Breach → Type 0) → ((told : Breach) → is_breach told → is_other told) → (fault : VtocFault) → IsToldFault is_breach fault → IsToldFault is_other fault
told_weaker is_breach is_other f (BadVtoc track number why) h = (h.0, f h.0 h.1, h.2, h.3, h.4)
told_weaker is_breach is_other f Indexed h = h
told_weaker is_breach is_other f (VtocFull need free) h = h
told_weaker is_breach is_other f NoMemory h = h

-- ---- the format 4

pub format_4_read : (heads : ℕ) (pointer : Cchhr) (slot : List ℕ) (text : Track) (recs : List Rec) (found : Option (List ℕ)) → IsAddress pointer.at → length slot ≤ 65536
    → IsTrackText pointer.at slot text → recs ≡ text.recs → IfSome found (IsFormat4Among recs pointer.r) → IfNone found ((bytes : List ℕ) → ¬ IsFormat4Among recs pointer.r bytes)
    → MatchOption found ((bytes : List ℕ) → ¬ IsFormat4 heads (λ _. slot) pointer bytes) (IsFormat4 heads (λ _. slot) pointer)
format_4_read heads pointer slot text recs None at short stands same f n = λ bytes h.
    let one : h.text ≡ text = one_text pointer.at slot h.text text at short h.stands stands in
    let P : Track → Type 0 = λ t. IsFormat4Among t.recs pointer.r bytes in
    let Q : List Rec → Type 0 = λ rs. IsFormat4Among rs pointer.r bytes in
    n bytes (subst Q (sym same) (subst P one (record { rec = h.rec; numbered = h.numbered; shaped = h.shaped; bytes_are = h.bytes_are; format = h.format })))
format_4_read heads pointer slot text recs (Some bytes) at short stands same f n =
    let Q : List Rec → Type 0 = λ rs. IsFormat4Among rs pointer.r bytes in
    let h : IsFormat4Among text.recs pointer.r bytes = subst Q same f in
    record { text = text; rec = h.rec; stands = stands; numbered = h.numbered; shaped = h.shaped; bytes_are = h.bytes_are; format = h.format }

pub no_format_4 : (heads : ℕ) (pointer : Cchhr) (slot : List ℕ) → ((text : Track) → ¬ IsTrackText pointer.at slot text) → (bytes : List ℕ) → ¬ IsFormat4 heads (λ _. slot) pointer bytes
no_format_4 heads pointer slot none bytes h = none h.text h.stands

-- ---- by the slot of its track alone

pub same_format_4 : (heads : ℕ) (slots others : Slots) (pointer : Cchhr) (bytes : List ℕ) → slots (track_at heads pointer.at) ≡ others (track_at heads pointer.at) → IsFormat4 heads slots pointer bytes → IsFormat4 heads others pointer bytes
same_format_4 heads slots others pointer bytes e h =
    let P : List ℕ → Type 0 = λ slot. IsTrackText pointer.at slot h.text in
    record { text = h.text; rec = h.rec; stands = subst P e h.stands; numbered = h.numbered; shaped = h.shaped; bytes_are = h.bytes_are; format = h.format }

pub same_front : (head : Head) (slots others : Slots) (pointer : Cchhr) (bytes : List ℕ) → slots (track_at (heads_of head.device) pointer.at) ≡ others (track_at (heads_of head.device) pointer.at)
    → IsFront head slots pointer bytes → IsFront head others pointer bytes
same_front head slots others pointer bytes e h = record { format_4 = same_format_4 (heads_of head.device) slots others pointer bytes e h.format_4; geometry = h.geometry; extent = h.extent }

same_rule : (head : Head) (slots others : Slots) (pointer : Cchhr) (rule : VtocRule) → slots (track_at (heads_of head.device) pointer.at) ≡ others (track_at (heads_of head.device) pointer.at)
    → IsFirstRuleBroken head slots pointer rule → IsFirstRuleBroken head others pointer rule
same_rule head slots others pointer rules.NoFormat4 e h = λ bytes p. h bytes (same_format_4 (heads_of head.device) others slots pointer bytes (sym e) p)
same_rule head slots others pointer rules.Geometry e h = (h.0, same_format_4 (heads_of head.device) slots others pointer h.0 e h.1, h.2)
same_rule head slots others pointer rules.VtocExtent e h = (h.0, same_format_4 (heads_of head.device) slots others pointer h.0 e h.1, h.2, h.3)
same_rule head slots others pointer rules.Track e h = h
same_rule head slots others pointer rules.Dscb e h = h
same_rule head slots others pointer rules.Name e h = h
same_rule head slots others pointer rules.Pointer e h = h
same_rule head slots others pointer rules.Range e h = h
same_rule head slots others pointer rules.Overlap e h = h
same_rule head slots others pointer rules.Free e h = h

pub same_breach : (head : Head) (slots others : Slots) (pointer : Cchhr) (told : Breach) → slots (track_at (heads_of head.device) pointer.at) ≡ others (track_at (heads_of head.device) pointer.at)
    → IsFrontBreach head slots pointer told → IsFrontBreach head others pointer told
same_breach head slots others pointer told e h = (same_rule head slots others pointer told.rule e h.0, h.1)
