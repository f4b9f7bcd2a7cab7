-- Texts that are put one after the other on the outputs of a dump, as they stand on their tracks.
use Rattle.std.proofs.Common.{◌≡◌, ℕ, ◌+◌, ◌<◌, ◌≤◌, Bool, true, false, List, [], ◌∷◌, ◌++◌, length, take, map, Option, Some, None, refl, sym, subst, arith, append_assoc, length-append}
use Rattle.std.specs.Prelude.{IfOk, IsErr, Result, Ok, Err, slice_get}
use Rattle.std.specs.Option.{is_some}
use Rattle.std.proofs.lemmas.Bool.{false≢true}
use Rattle.std.proofs.lemmas.List.{append-nil, map-append}
use Rattle.ckd_image.specs.declared.device.Device.{Device}
use Rattle.ckd_image.specs.declared.track.Track.{Track}
use Rattle.ckd_image.specs.Device.{heads_of}
use Rattle.dasd_pool.specs.declared.pool.Pool.{Ghosts}
use Rattle.dasd_pool.specs.Disk.{State}
use Rattle.dump_fmt.specs.declared.piece.DumpHead.{DumpHead}
use Rattle.dump_fmt.specs.declared.piece.Piece.{Piece}
use Rattle.dump_fmt.specs.declared.piece.Piece.TheVariants as pieces
use Rattle.dump_fmt.specs.declared.progress.Progress.{Progress}
use Rattle.dump_fmt.specs.Front.{Adds, Front, IsFront, with_text}
use Rattle.dump_fmt.specs.Outs.{OutSeen}
use Rattle.dump_fmt.specs.Parts.{DumpPart, StandsOn}
use Rattle.dump_fmt.specs.Writing.{IsWriting, MayAdd}
use Rattle.volume_model.specs.Reads.{AreTexts}
use Rattle.volume_model.specs.Sound.{Slots}
use Rattle.volume_model.specs.Unit.{Text, good}
use Rattle.unit_load.specs.declared.stop.UnitFault.{UnitFault}
use Rattle.job_turns.specs.job_copies.unit_change.Described.{own_place}
use Rattle.job_turns.specs.job_steps.unit_session.Sessions.{SessionView}
use Rattle.job_dumps.specs.declared.texts.SetTracks.{SetTracks}
use Rattle.job_dumps.specs.Putting.{holding}
use Rattle.job_dumps.specs.Texts.{HasPutTexts, IsPartUnderWay, IsReadAs, MayPutTexts, OnlyLooks, PutsNext, PutsTexts, StopsAt, with_texts}
use Rattle.job_dumps.proofs.Fronts.{front_more}

-- ---- outputs

-- a call puts a piece, whatever is written
abbrev pub PutsPiece : {X : Type 0} → (X → OutSeen) → Piece → Progress → List X → Progress → List X → Type 0
PutsPiece {X} seen piece progress outs after sent =
    (before : List X) (head : DumpHead) (front next : Front) → IsWriting seen before head front progress outs → Adds front piece next → IsFront head next → IsWriting seen before head next after sent

module _ {X : Type 0} (seen : X → OutSeen) where
  -- no text more
  pub none_put : (device : Device) (count : ℕ) (progress : Progress) (outs : List X) → HasPutTexts seen device count [] progress outs progress outs
  none_put device count progress outs before head parts part on writing =
      subst (λ (texts : List Track). IsWriting seen before head (holding parts (Some (record { f1 = part.f1; tracks = part.tracks; kind = part.kind; texts = texts }))) progress outs)
      (sym (append-nil part.texts)) writing

  stands_on : (device : Device) (head : DumpHead) (text : Track) → head.device ≡ device → StandsOn device text → StandsOn head.device text
  stands_on device head text same stands = subst (λ (d : Device). StandsOn d text) (sym same) stands

  next_front : (device : Device) (head : DumpHead) (parts : List DumpPart) (part : DumpPart) (text : Track) (progress : Progress) (outs before : List X) → StandsOn device text
      → IsPartUnderWay device 1 head part → IsWriting seen before head (holding parts (Some part)) progress outs → IsFront head (holding parts (Some (with_text part text)))
  next_front device head parts part text progress outs before stands on writing =
      front_more head parts part text on.logical writing.stands (stands_on device head text on.device_is stands) (omega (arith, on.room))

  -- a text may stand next
  pub text_may : (device : Device) (text : Track) (progress : Progress) (outs : List X) → StandsOn device text → MayPutTexts seen device 1 progress outs → MayAdd seen (pieces.Track text) progress outs
  text_may device text progress outs stands (before, head, parts, part, on, writing) = (
    before,
    head,
    holding parts (Some part),
    holding parts (Some (with_text part text)),
    writing,
    (part, refl, refl),
    next_front device head parts part text progress outs before stands on writing,
  )

  -- and does, once it is put
  pub text_put : (device : Device) (text : Track) (progress : Progress) (outs : List X) (after : Progress) (sent : List X) → StandsOn device text
      → PutsPiece seen (pieces.Track text) progress outs after sent → HasPutTexts seen device 1 (text ∷ []) progress outs after sent
  text_put device text progress outs after sent stands puts before head parts part on writing =
      puts before head (holding parts (Some part)) (holding parts (Some (with_text part text))) writing (part, refl, refl)
      (next_front device head parts part text progress outs before stands on writing)

  on_next : (device : Device) (count : ℕ) (head : DumpHead) (part : DumpPart) (texts : List Track) → length texts < count → IsPartUnderWay device count head part
      → IsPartUnderWay device 1 head (with_texts part texts)
  on_next device count head part texts less on =
      record { logical = on.logical; device_is = on.device_is; room = omega (arith, less, on.room, length-append part.texts texts) }

  -- texts, and one more behind them
  pub texts_then : (device : Device) (count : ℕ) (texts more : List Track) (progress : Progress) (outs : List X) (between : Progress) (held : List X) (after : Progress) (sent : List X)
      → length texts < count → HasPutTexts seen device count texts progress outs between held → HasPutTexts seen device 1 more between held after sent
      → HasPutTexts seen device count (texts ++ more) progress outs after sent
  texts_then device count texts more progress outs between held after sent less one other before head parts part on writing =
      subst (λ (all : List Track). IsWriting seen before head (holding parts (Some (record { f1 = part.f1; tracks = part.tracks; kind = part.kind; texts = all }))) after sent)
      (append_assoc part.texts texts more)
      (other before head parts (with_texts part texts) (on_next device count head part texts less on) (one before head parts part on writing))

  -- a text may stand behind them
  pub may_next : (device : Device) (count : ℕ) (texts : List Track) (progress : Progress) (outs : List X) (after : Progress) (sent : List X) → length texts < count
      → HasPutTexts seen device count texts progress outs after sent → MayPutTexts seen device count progress outs → MayPutTexts seen device 1 after sent
  may_next device count texts progress outs after sent less put (before, head, parts, part, on, writing) =
      (before, head, parts, with_texts part texts, on_next device count head part texts less on, put before head parts part on writing)

-- ---- tracks

-- texts of tracks behind texts of tracks
pub texts_append : (heads : ℕ) (slots : Slots) (tracks more : List ℕ) (texts rest : List Text) → AreTexts heads own_place slots tracks texts → AreTexts heads own_place slots more rest
    → AreTexts heads own_place slots (tracks ++ more) (texts ++ rest)
texts_append heads slots [] more [] rest are behind = behind
texts_append heads slots [] more (text ∷ texts) rest are behind = absurd are
texts_append heads slots (track ∷ tracks) more [] rest are behind = absurd are
texts_append heads slots (track ∷ tracks) more (text ∷ texts) rest are behind = (are.0, texts_append heads slots tracks more texts rest are.1 behind)

-- ---- so far

-- the texts of the first of a data set's tracks were read and put
pub record SoFar {P X : Type 0} (pools : Ghosts P) (seen : X → OutSeen) (start now : SessionView P) (set : SetTracks) (progress : Progress) (outs : List X) (after : Progress) (sent : List X)
    (count : ℕ) : Type 0 where
  pub looks : OnlyLooks pools start now
  pub texts : List Track
  pub count_is : length texts ≡ count
  pub read : pools.tells → AreTexts (heads_of set.device) own_place ((pools.disk start.pool).state.contents set.unit) (take count set.tracks.items) (map good texts)
  pub put : HasPutTexts seen set.device (length set.tracks.items) texts progress outs after sent

-- a text more is one more of them
pub one_more : {P X : Type 0} (pools : Ghosts P) (seen : X → OutSeen) {start now next : SessionView P} (set : SetTracks) {progress : Progress} {outs : List X} {between : Progress} {held : List X}
    {after : Progress} {sent : List X} (count track : ℕ) (found : Option Track) → SoFar pools seen start now set progress outs between held count → count < length set.tracks.items
    → slice_get set.tracks.items count ≡ Some track → take (count + 1) set.tracks.items ≡ take count set.tracks.items ++ track ∷ [] → is_some found ≡ true
    → PutsNext pools seen now set.unit set.device track between held after sent found → OnlyLooks pools start next → SoFar pools seen start next set progress outs after sent (count + 1)
one_more pools seen set count track None far less at more some puts looks = absurd (false≢true some)
one_more pools seen {start} {now} set {progress} {outs} {between} {held} {after} {sent} count track (Some text) far less at more some puts looks = record {
  looks = looks;
  texts = far.texts ++ text ∷ [];
  count_is = omega (arith, far.count_is, length-append far.texts (text ∷ []));
  read = λ told. all told;
  put = texts_then seen set.device (length set.tracks.items) far.texts (text ∷ []) progress outs between held after sent (omega (arith, far.count_is, less)) far.put puts.put;
}
  where
    heads : ℕ
    heads = heads_of set.device

    all : pools.tells → AreTexts heads own_place ((pools.disk start.pool).state.contents set.unit) (take (count + 1) set.tracks.items) (map good (far.texts ++ text ∷ []))
    all told =
        let slots = (pools.disk start.pool).state.contents set.unit in
        let here : IsReadAs heads track (slots track) (Some text) =
        subst (λ (s : State). IsReadAs heads track (s.contents set.unit track) (Some text)) (far.looks.same.state told) (puts.read told) in
        subst (λ (l : List ℕ). AreTexts heads own_place slots l (map good (far.texts ++ text ∷ []))) (sym more)
        (subst (AreTexts heads own_place slots (take count set.tracks.items ++ track ∷ [])) (sym (map-append good far.texts (text ∷ [])))
        (texts_append heads slots (take count set.tracks.items) (track ∷ []) (map good far.texts) (good text ∷ []) (far.read told) (here, tt)))

-- the next track has no text
pub stops_here : {P X : Type 0} (pools : Ghosts P) (seen : X → OutSeen) {start now : SessionView P} (set : SetTracks) {progress : Progress} {outs : List X} {between : Progress} {held : List X}
    {after : Progress} {sent : List X} (count track : ℕ) (found : Option Track) → (far : SoFar pools seen start now set progress outs between held count)
    → slice_get set.tracks.items count ≡ Some track → is_some found ≡ false
    → PutsNext pools seen now set.unit set.device track between held after sent found → StopsAt pools start set far.texts false
stops_here pools seen set count track (Some text) far at none puts = absurd (false≢true (sym none))
stops_here pools seen {start} set count track None far at none puts = (
  track,
  subst (λ (n : ℕ). slice_get set.tracks.items n ≡ Some track) (sym far.count_is) at,
  λ told. subst (λ (s : State). IsReadAs (heads_of set.device) track (s.contents set.unit track) None) (far.looks.same.state told) (puts.read told),
)

-- where none was found, the outputs are as they were
pub put_still : {P X : Type 0} (pools : Ghosts P) (seen : X → OutSeen) {start now : SessionView P} (set : SetTracks) {progress : Progress} {outs : List X} {between : Progress} {held : List X}
    {after : Progress} {sent : List X} (count track : ℕ) (found : Option Track) → (far : SoFar pools seen start now set progress outs between held count) → count < length set.tracks.items
    → is_some found ≡ false → PutsNext pools seen now set.unit set.device track between held after sent found
    → HasPutTexts seen set.device (length set.tracks.items) far.texts progress outs after sent
put_still pools seen set count track (Some text) far less none puts = absurd (false≢true (sym none))
put_still pools seen set {progress} {outs} {between} {held} {after} {sent} count track None far less none puts =
    subst (λ (texts : List Track). HasPutTexts seen set.device (length set.tracks.items) texts progress outs after sent) (append-nil far.texts)
    (texts_then seen set.device (length set.tracks.items) far.texts [] progress outs between held after sent (omega (arith, far.count_is, less)) far.put puts.put)

-- ---- answers

-- what an Ok would say isn't asked of an Err
pub no_ok : {T E : Type 0} (Holds : T → Type 0) (result : Result T E) → IsErr result → IfOk result Holds
no_ok Holds (Ok value) is = absurd (false≢true is)
no_ok Holds (Err fault) is = tt

-- the texts that were put when a data set's tracks were left, for any answer
pub put_so_far : {P X : Type 0} (pools : Ghosts P) (seen : X → OutSeen) {start now : SessionView P} (set : SetTracks) {progress : Progress} {outs : List X} {between : Progress} {held : List X}
    {after : Progress} {sent : List X} (count : ℕ) (result : Result Bool UnitFault) → (far : SoFar pools seen start now set progress outs between held count) → count ≤ length set.tracks.items
    → HasPutTexts seen set.device (length set.tracks.items) far.texts progress outs after sent → IfOk result (StopsAt pools start set far.texts)
    → PutsTexts pools seen start set progress outs after sent result
put_so_far pools seen {start} set count result far within put stops = record {
  texts = far.texts;
  within = omega (arith, far.count_is, within);
  read = λ told.
      subst (λ (n : ℕ). AreTexts (heads_of set.device) own_place ((pools.disk start.pool).state.contents set.unit) (take n set.tracks.items) (map good far.texts)) (sym far.count_is)
      (far.read told);
  put = put;
  stops = stops;
}
