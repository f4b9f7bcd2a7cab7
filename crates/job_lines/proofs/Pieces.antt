-- The texts of messages, as they are put together.
use Rattle.std.proofs.Common.{◌≡◌, ℕ, List, [], ◌++◌, sym, ap, ◌∙◌, append_assoc}
use Rattle.std.proofs.lemmas.List.{append-nil}
use Rattle.std.specs.Prelude.{codes}
use Rattle.std.specs.Fmt.{decimal}
use Rattle.volume_model.specs.declared.why.Why.TheVariants as whys
use Rattle.job_lines.specs.declared.message.VolumeSummary.{VolumeSummary}
use Rattle.job_lines.specs.declared.message.SetSummary.{SetSummary}
use Rattle.job_lines.specs.declared.message.ExtentSummary.{ExtentSummary}
use Rattle.job_lines.specs.Names.{printed}
use Rattle.job_lines.specs.Lines.{hex, hex_four, device_name, organization, rule_words, why_words, volume_text, set_text, extent_text}

-- three pieces, of which the outer ones are known by other names
pub three_pieces : (text before after first words last : List ℕ) → text ≡ before ++ (words ++ after) → before ≡ first → after ≡ last → text ≡ first ++ words ++ last
three_pieces text before after first words last is before-is after-is =
    is ∙ (λ i. before-is i ++ (words ++ after-is i)) ∙ regroup first words last
  where
    regroup : (a b c : List ℕ) → a ++ (b ++ c) ≡ a ++ b ++ c
    regroup a b c = simp append_assoc

pub vtoc_together : (text words : List ℕ) (track place rule : ℕ)
    → text ≡ codes "VTOC " ++ (decimal track ++ (codes " " ++ (decimal place ++ (codes " " ++ words))))
    → words ≡ rule_words rule → text ≡ why_words (whys.Vtoc track place rule)
vtoc_together text words track place rule is words-is =
    is ∙ regroup (codes "VTOC ") (decimal track) (codes " ") (decimal place) (codes " ") words
    ∙ ap (λ (w : List ℕ). codes "VTOC " ++ decimal track ++ codes " " ++ decimal place ++ codes " " ++ w) words-is
  where
    regroup : (V t s r b w : List ℕ) → V ++ (t ++ (s ++ (r ++ (b ++ w)))) ≡ V ++ t ++ s ++ r ++ b ++ w
    regroup V t s r b w = simp append_assoc

-- words before a name, and behind it
pub led_pieces : (lead words text name why shown cause : List ℕ) → text ≡ lead ++ (name ++ (words ++ why)) → name ≡ shown → why ≡ cause → text ≡ lead ++ shown ++ words ++ cause
led_pieces lead words text name why shown cause is name-is why-is =
    is ∙ (λ i. lead ++ (name-is i ++ (words ++ why-is i))) ∙ regroup lead shown words cause
  where
    regroup : (U n O w : List ℕ) → U ++ (n ++ (O ++ w)) ≡ U ++ n ++ O ++ w
    regroup U n O w = simp append_assoc

pub consolidated_together : (text name shown : List ℕ) (extents first : ℕ) → text ≡ name ++ (codes " CONSOLIDATED FROM " ++ (decimal extents ++ (codes " EXTENTS TO " ++ decimal first)))
    → name ≡ shown → text ≡ shown ++ codes " CONSOLIDATED FROM " ++ decimal extents ++ codes " EXTENTS TO " ++ decimal first
consolidated_together text name shown extents first is name-is =
    is ∙ (λ i. name-is i ++ (codes " CONSOLIDATED FROM " ++ (decimal extents ++ (codes " EXTENTS TO " ++ decimal first))))
    ∙ regroup shown (codes " CONSOLIDATED FROM ") (decimal extents) (codes " EXTENTS TO ") (decimal first)
  where
    regroup : (n C e E f : List ℕ) → n ++ (C ++ (e ++ (E ++ f))) ≡ n ++ C ++ e ++ E ++ f
    regroup n C e E f = simp append_assoc

-- the text of an extent
pub extent_together : (text : List ℕ) (extent : ExtentSummary)
    → text ≡ codes "EXTENT " ++ (decimal extent.number ++ (codes " KIND " ++ (hex extent.kind ++ (codes " FROM " ++ (decimal extent.first ++ (codes " LENGTH " ++ decimal extent.tracks))))))
    → text ≡ extent_text extent
extent_together text extent is =
    is ∙ regroup (codes "EXTENT ") (decimal extent.number) (codes " KIND ") (hex extent.kind) (codes " FROM ") (decimal extent.first) (codes " LENGTH ") (decimal extent.tracks)
  where
    regroup : (E n K k F f L l : List ℕ) → E ++ (n ++ (K ++ (k ++ (F ++ (f ++ (L ++ l)))))) ≡ E ++ n ++ K ++ k ++ F ++ f ++ L ++ l
    regroup E n K k F f L l = simp append_assoc

-- the text of a data set
pub set_together : (text name org last : List ℕ) (set : SetSummary)
    → text ≡ name ++ (codes " " ++ (org ++ (codes " EXTENTS " ++ (decimal set.extents ++ (codes " TRACKS " ++ (decimal set.tracks ++ (codes " LAST " ++ last)))))))
    → name ≡ printed set.name → org ≡ organization set.organization → last ≡ hex_four set.last_track ++ hex set.last_record → text ≡ set_text set
set_together text name org last set is name-is org-is last-is =
    is ∙ (λ i. name-is i ++ (codes " " ++ (org-is i ++ (codes " EXTENTS " ++ (decimal set.extents ++ (codes " TRACKS " ++ (decimal set.tracks ++ (codes " LAST " ++ last-is i))))))))
    ∙ regroup (printed set.name) (codes " ") (organization set.organization) (codes " EXTENTS ") (decimal set.extents) (codes " TRACKS ") (decimal set.tracks) (codes " LAST ")
    (hex_four set.last_track) (hex set.last_record)
  where
    regroup : (n s o E e T t L b r : List ℕ) → n ++ (s ++ (o ++ (E ++ (e ++ (T ++ (t ++ (L ++ (b ++ r)))))))) ≡ n ++ s ++ o ++ E ++ e ++ T ++ t ++ L ++ b ++ r
    regroup n s o E e T t L b r = simp append_assoc

-- the text of a volume
pub volume_together : (text serial device : List ℕ) (volume : VolumeSummary)
    → text ≡ codes "VOLUME " ++ (serial ++ (codes " " ++ (device ++ (codes " USABLE " ++ (decimal volume.usable ++ (codes " FREE " ++ (decimal volume.free
    ++ (codes " IN " ++ (decimal volume.runs ++ (codes " RUNS INDEX " ++ decimal volume.index))))))))))
    → serial ≡ printed volume.serial.text → device ≡ device_name volume.device → text ≡ volume_text volume
volume_together text serial device volume is serial-is device-is =
    is ∙ (λ i. codes "VOLUME " ++ (serial-is i ++ (codes " " ++ (device-is i ++ (codes " USABLE " ++ (decimal volume.usable ++ (codes " FREE " ++ (decimal volume.free
    ++ (codes " IN " ++ (decimal volume.runs ++ (codes " RUNS INDEX " ++ decimal volume.index)))))))))))
    ∙ regroup (codes "VOLUME ") (printed volume.serial.text) (codes " ") (device_name volume.device) (codes " USABLE ") (decimal volume.usable) (codes " FREE ") (decimal volume.free)
    (codes " IN ") (decimal volume.runs) (codes " RUNS INDEX ") (decimal volume.index)
  where
    regroup : (V n s d U u F f I r R x : List ℕ)
        → V ++ (n ++ (s ++ (d ++ (U ++ (u ++ (F ++ (f ++ (I ++ (r ++ (R ++ x)))))))))) ≡ V ++ n ++ s ++ d ++ U ++ u ++ F ++ f ++ I ++ r ++ R ++ x
    regroup V n s d U u F f I r R x = simp append_assoc

-- what is said of a data set that stands on a volume, without and with another name there
pub stands_together : (words text name shown serial volume : List ℕ) → text ≡ name ++ (words ++ serial) → name ≡ shown → serial ≡ volume → text ≡ shown ++ words ++ volume ++ []
stands_together words text name shown serial volume is name-is serial-is =
    is ∙ (λ i. name-is i ++ (words ++ serial-is i)) ∙ regroup shown words volume
  where
    regroup : (n c v : List ℕ) → n ++ (c ++ v) ≡ n ++ c ++ v ++ []
    regroup n c v = sym (append_assoc n c v) ∙ sym (append-nil (n ++ c ++ v))

pub renamed_together : (words text name shown serial volume copy new : List ℕ) → text ≡ name ++ (words ++ (serial ++ (codes " AS " ++ copy))) → name ≡ shown → serial ≡ volume → copy ≡ new
    → text ≡ shown ++ words ++ volume ++ (codes " AS " ++ new)
renamed_together words text name shown serial volume copy new is name-is serial-is copy-is =
    is ∙ (λ i. name-is i ++ (words ++ (serial-is i ++ (codes " AS " ++ copy-is i)))) ∙ regroup shown words volume (codes " AS ") new
  where
    regroup : (n c v a w : List ℕ) → n ++ (c ++ (v ++ (a ++ w))) ≡ n ++ c ++ v ++ (a ++ w)
    regroup n c v a w = simp append_assoc

pub deleted_together : (text name shown : List ℕ) → text ≡ name ++ codes " DELETED" → name ≡ shown → text ≡ shown ++ codes " DELETED"
deleted_together text name shown is name-is = is ∙ ap (λ (n : List ℕ). n ++ codes " DELETED") name-is
