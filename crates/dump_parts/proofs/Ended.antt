-- A dump that is read to its end.
use Rattle.std.proofs.Common.{◌≡◌, ℕ, ◌<◌, ◌==◌, Bool, true, false, List, [], ◌∷◌, ◌++◌, length, Option, Some, None, IsTrue, refl, sym, subst, ◌∙◌, arith, append_assoc}
use Rattle.std.proofs.lemmas.Bool.{eqb-true}
use Rattle.std.proofs.lemmas.List.{append-nil}
use Rattle.std.specs.Option.{is_some}
use Rattle.ckd_image.specs.declared.track.Track.{Track as Text}
use Rattle.dump_fmt.specs.declared.piece.Piece.{Piece}
use Rattle.dump_fmt.specs.Front.{Front, with_current, with_text}
use Rattle.dump_fmt.specs.Parts.{DumpPart, is_whole}
use Rattle.dump_read.specs.Reader.{GivesNext, IsWhole, ReaderView}
use Rattle.dump_read.specs.Tape.{TapeSeen}
use Rattle.dump_read.proofs.ReadAll.{GivesAny}
use Rattle.dump_parts.specs.declared.parts.NextTrack.{NextTrack}
use Rattle.dump_parts.specs.declared.parts.NextTrack.TheVariants as ends
use Rattle.dump_parts.specs.Reading.{EndsDump, EndsPart, GivesTrack, HasRead, IsWithin, with_texts}

whole_given : (tape : TapeSeen) (reader : ReaderView) (front : Front) (found : Option Piece) → is_some found ≡ false → GivesNext tape reader front found → IsWhole tape reader front
whole_given tape reader front None none gives = gives
whole_given tape reader front (Some piece) none gives = cc

pub dump_ended : (old new : TapeSeen) (before after : ReaderView) (found : Option Piece) → is_some found ≡ false → GivesAny old before new after found → HasRead old before → EndsDump new after
dump_ended old new before after found none gives (front, reading) = (front, whole_given new after front found none (gives front reading))

-- a part is under way that has some tracks more
pub record HasMore (tape : TapeSeen) (reader : ReaderView) (front : Front) (part : DumpPart) : Type 0 where
  pub texts : List Text
  pub within : IsWithin tape reader (with_current front (Some (with_texts part texts))) (with_texts part texts)

abbrev part_with : DumpPart → List Text → DumpPart
part_with part texts = record { f1 = part.f1; tracks = part.tracks; kind = part.kind; texts = texts }

same_front : (front : Front) (part : DumpPart) → front.current ≡ Some part → with_current front (Some part) ≡ front
same_front front part at = λ i. record { parts = front.parts; current = sym at i; slots = front.slots }

-- none of its tracks was read since
pub more_none : (tape : TapeSeen) (reader : ReaderView) (front : Front) (part : DumpPart) → IsWithin tape reader front part → HasMore tape reader front part
more_none tape reader front part is = record {
  texts = [];
  within = subst (λ (l : List Text). IsWithin tape reader (with_current front (Some (part_with part l))) (part_with part l)) (sym (append-nil part.texts))
      (subst (λ (f : Front). IsWithin tape reader f part) (sym (same_front front part is.at)) is);
}

-- one more was
pub more_text : (tape : TapeSeen) (reader : ReaderView) (front : Front) (part : DumpPart) (texts : List Text) (text : Text)
    → IsWithin tape reader (with_current front (Some (with_text (with_texts part texts) text))) (with_text (with_texts part texts) text) → HasMore tape reader front part
more_text tape reader front part texts text is = record {
  texts = texts ++ (text ∷ []);
  within = subst (λ (l : List Text). IsWithin tape reader (with_current front (Some (part_with part l))) (part_with part l)) (append_assoc part.texts texts (text ∷ [])) is;
}

is_true : (b : Bool) → IsTrue b → b ≡ true
is_true true t = refl
is_true false t = cc

less_not : (count tracks : ℕ) (b : Bool) → (count == tracks) ≡ b → count < tracks → b ≡ false
less_not count tracks false is less = refl
less_not count tracks true is less = absurd (omega (arith, less, eqb-true count tracks is))

-- this is the end of a part, whole or not
abbrev pub IsEnd : NextTrack → Bool → Type 0
IsEnd ends.Whole whole = whole ≡ true
IsEnd ends.Dropped whole = whole ≡ false
IsEnd (ends.Track text) whole = ⊥

-- it ended
pub ended_by : (tape : TapeSeen) (reader : ReaderView) (front : Front) (part : DumpPart) (texts : List Text) (next : NextTrack) (whole : Bool) → IsEnd next whole
    → GivesTrack tape reader (with_current front (Some (with_texts part texts))) (with_texts part texts) next → EndsPart tape reader front part whole
ended_by tape reader front part texts ends.Whole whole is (all, between) = record { texts = texts; whole_is = is_true (is_whole (with_texts part texts)) all ∙ sym is; between = between }
ended_by tape reader front part texts ends.Dropped whole is (less, between) =
    record { texts = texts; whole_is = less_not (length (part.texts ++ texts)) part.tracks (is_whole (with_texts part texts)) refl less ∙ sym is; between = between }
ended_by tape reader front part texts (ends.Track text) whole is gives = absurd is
