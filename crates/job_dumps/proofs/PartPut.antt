-- A part is put piece by piece: it begins, its texts follow, and it ends; wherever that stops, what stands is a front of the part of its data set.
use Rattle.std.proofs.Common.{◌≡◌, ℕ, ◌+◌, ◌<◌, ◌≤◌, Bool, true, false, if◌then◌else◌, List, [], ◌∷◌, ◌++◌, length, take, map, replicate, All, Contains, Some, None, Result, Ok, Err, refl, sym, ap, subst, ◌∙◌, arith}
use Rattle.std.specs.Prelude.{slice_get, IfErr, OnOk}
use Rattle.std.specs.Result.{is_err}
use Rattle.std.proofs.lemmas.Bool.{eq-eqb, false≢true, ne_eqb}
use Rattle.std.proofs.lemmas.List.{append-nil, length-take-le, take-append-le, take-take}
use Rattle.std.proofs.lemmas.List.Elements.{All-weaker}
use Rattle.std.proofs.lemmas.Option.{same_Some, slice_get_within}
use Rattle.ckd_image.specs.declared.device.Device.{Device}
use Rattle.ckd_image.specs.declared.track.Track.{Track}
use Rattle.ckd_image.specs.Device.{heads_of, slot_of}
use Rattle.dasd_pool.specs.declared.pool.Pool.{Ghosts}
use Rattle.dasd_pool.specs.Calls.{size_in}
use Rattle.dsn_filter.specs.declared.dsn.Dsn.{Dsn}
use Rattle.dump_fmt.specs.declared.piece.DumpHead.{DumpHead}
use Rattle.dump_fmt.specs.declared.piece.Piece.{Piece}
use Rattle.dump_fmt.specs.declared.piece.Piece.TheVariants as pieces
use Rattle.dump_fmt.specs.declared.progress.Progress.{Progress}
use Rattle.dump_fmt.specs.Outs.{OutSeen}
use Rattle.dump_fmt.specs.Parts.{DumpPart, IsPart, is_whole}
use Rattle.dump_fmt.specs.Front.{Adds, Front, IsFront, begun, largest_count, whole_tracks}
use Rattle.dump_fmt.specs.Writing.{IsWriting, MayAdd}
use Rattle.volume_model.specs.Reads.{AreTexts, fields_of_1}
use Rattle.volume_model.specs.Unit.{DataSet, OnlineVolume, UnitModel, good, online}
use Rattle.volume_model.proofs.Units.{same_online}
use Rattle.volume_change.proofs.Names.{one_text}
use Rattle.vtoc_core.specs.declared.volume.Row.{Row}
use Rattle.vtoc_core.specs.declared.volume.Volume.{Volume}
use Rattle.unit_load.specs.declared.stop.UnitFault.{UnitFault}
use Rattle.unit_load.specs.declared.state.UnitState.{UnitState}
use Rattle.unit_load.specs.declared.state.UnitState.TheVariants.{Online}
use Rattle.unit_load.specs.Kept.{IsFromSlots, IsKept}
use Rattle.move_core.specs.Facts.{Facts}
use Rattle.move_core.specs.Stands.{IsSettled}
use Rattle.job_turns.specs.job_copies.unit_change.Described.{Describes, DescribesSet, own_place}
use Rattle.job_turns.specs.job_copies.unit_steps.Loaded.{AreModels}
use Rattle.job_turns.specs.job_copies.unit_steps.Plans.{HasRow, tracks_in}
use Rattle.job_turns.specs.job_copies.step_plans.Plans.{IsSound}
use Rattle.job_turns.proofs.job_copies.SetsOfRows.{described_row}
use Rattle.job_turns.proofs.job_copies.step_plans.LoadedRows.{sound_row}
use Rattle.job_turns.proofs.job_copies.step_room.SoundRows.{one_row}
use Rattle.job_turns.proofs.job_copies.unit_steps.OneChange.{same_volume}
use Rattle.job_turns.specs.job_steps.unit_session.Sessions.{SessionView}
use Rattle.job_turns.specs.job_steps.unit_session.Texts.{AreTextsOf}
use Rattle.job_turns.specs.job_steps.Units.{ForUnits, IsSet, facts_of}
use Rattle.job_dumps.specs.declared.texts.SetTracks.{SetTracks}
use Rattle.job_dumps.specs.Parts.{IsPartOfSet}
use Rattle.job_dumps.specs.Putting.{IsBefore, IsReadyFor, MayPutPart, holding}
use Rattle.job_dumps.specs.Texts.{HasPutTexts, IsAt, IsOfRow, IsPartUnderWay, IsReadAs, IsSetToDump, LeavesPart, MayPutSet, MayPutTexts, PutsPart, PutsTexts, StopsAt, with_texts}
use Rattle.job_dumps.proofs.Fronts.{front_begun, front_ended}
use Rattle.job_dumps.proofs.Judged.{model_of}
use Rattle.job_dumps.proofs.PartTexts.{front_part, stopped_part, whole_part}
use Rattle.job_dumps.proofs.RowParts.{fields_long, few_blocks, part_begins, row_below, row_long, row_slot, sound_of}

-- ---- results

-- what holds on `Ok` holds where there is no error
pub ok_there : {T E Q : Type 0} (result : Result T E) → is_err result ≡ false → OnOk result Q → Q
ok_there (Ok value) none holds = holds
ok_there (Err fault) none holds = absurd (false≢true (sym none))

-- an error is there, and what is said of it
pub err_there : {T E : Type 0} {Q : E → Type 0} (result : Result T E) → is_err result ≡ true → IfErr result Q → (fault : E) × Q fault
err_there (Ok value) some holds = absurd (false≢true some)
err_there (Err fault) some holds = (fault, holds)

-- what holds is said of any error
pub err_any : {T E Q : Type 0} (result : Result T E) → Q → IfErr result (λ fault. Q)
err_any (Ok value) holds = tt
err_any (Err fault) holds = holds

-- ---- pieces

-- so many texts are all, or fewer
abbrev Ends : Bool → ℕ → ℕ → Type 0
Ends true long tracks = long ≡ tracks
Ends false long tracks = long < tracks

-- a call puts a piece, whatever front is written
abbrev pub PutsPiece : {X : Type 0} → (X → OutSeen) → Piece → Progress → List X → Progress → List X → Type 0
PutsPiece {X} seen piece progress outs after sent =
    (before : List X) (head : DumpHead) (front next : Front) → IsWriting seen before head front progress outs → Adds front piece next → IsFront head next → IsWriting seen before head next after sent

-- this front stands in whichever dump was ready for a part
abbrev Stands : {X : Type 0} → (X → OutSeen) → Volume → Row → (List DumpPart → Front) → Progress → List X → Progress → List X → Type 0
Stands {X} seen volume row next progress outs after sent =
    (before : List X) (head : DumpHead) (parts : List DumpPart) → IsReadyFor volume.device row.name (length (tracks_in volume row)) head parts
    → IsWriting seen before head (holding parts None) progress outs
    → IsWriting seen before head (next parts) after sent

module _ {X : Type 0} (seen : X → OutSeen) {image : List ℕ} {blocks : ℕ} {volume : Volume} {slots : List ℕ} (from : IsFromSlots false image blocks volume slots) (row : Row)
    (there : Contains volume.rows row) (part : DumpPart) (is : IsOfRow volume row part) where
  abbrev first : DumpPart
  first = begun part.f1 part.tracks part.kind

  abbrev filled : List Track → DumpPart
  filled texts = with_texts first texts

  name_kept : row.name ≡ take 44 part.f1
  name_kept =
      let fields = fields_of_1 row.f1 in
      let long = row_long from row there in
      (sound_row volume (image, blocks, slots, from) row there).named
      ∙ sym (ap (take 44) is.f1_is ∙ take-append-le 44 fields (replicate 35 0) (omega (arith, fields_long row.f1 long))
      ∙ take-append-le 44 (take 59 row.f1) _ (omega (arith, length-take-le 59 row.f1 (omega (arith, long)))) ∙ take-take 44 59 row.f1 (omega arith))

  begins : (head : DumpHead) (parts : List DumpPart) → IsReadyFor volume.device row.name (length (tracks_in volume row)) head parts → IsFront head (holding parts None)
      → IsFront head (holding parts (Some first))
  begins head parts ready front =
      front_begun head parts (begun part.f1 part.tracks part.kind) ready.logical front
      (subst (λ (device : Device). IsPart device (begun part.f1 part.tracks part.kind)) (sym ready.device_is) (part_begins from row there part is))
      (subst (λ (name : List ℕ). All (λ other. IsBefore (take 44 other.f1) name) parts) name_kept ready.earlier) ready.few

  -- its first piece may be put
  pub may_begin : (piece : Piece) → piece ≡ pieces.Part part.f1 part.tracks part.kind → (progress : Progress) (outs : List X)
      → MayPutPart seen volume.device row.name (length (tracks_in volume row)) progress outs → MayAdd seen piece progress outs
  may_begin piece same progress outs (before, head, parts, ready, writing) = (
    before,
    head,
    holding parts None,
    holding parts (Some first),
    writing,
    subst (λ (p : Piece). Adds (holding parts None) p (holding parts (Some first))) (sym same) (refl, refl),
    begins head parts ready writing.stands,
  )

  module _ (progress after : Progress) (outs sent : List X) where
    -- once it is put, the part is under way
    pub has_begun : (piece : Piece) → piece ≡ pieces.Part part.f1 part.tracks part.kind → PutsPiece seen piece progress outs after sent
        → Stands seen volume row (λ parts. holding parts (Some first)) progress outs after sent
    has_begun piece same puts before head parts ready writing =
        puts before head (holding parts None) (holding parts (Some first)) writing (subst (λ (p : Piece). Adds (holding parts None) p (holding parts (Some first))) (sym same) (refl, refl))
        (begins head parts ready writing.stands)

    module _ (device : Device) (tracks : List ℕ) (device_is : device ≡ volume.device) (tracks_are : tracks ≡ tracks_in volume row)
        (now : Stands seen volume row (λ parts. holding parts (Some first)) progress outs after sent) where
      under_way : (head : DumpHead) (parts : List DumpPart) → IsReadyFor volume.device row.name (length (tracks_in volume row)) head parts → IsPartUnderWay device (length tracks) head first
      under_way head parts ready = record { logical = ready.logical; device_is = ready.device_is ∙ sym device_is; room = omega (arith, is.tracks_are, ap length tracks_are) }

      -- then its texts may be put
      pub may_texts : MayPutPart seen volume.device row.name (length (tracks_in volume row)) progress outs → MayPutTexts seen device (length tracks) after sent
      may_texts (before, head, parts, ready, writing) = (before, head, parts, first, under_way head parts ready, now before head parts ready writing)

      -- and stand there
      pub has_texts : (texts : List Track) (later : Progress) (put : List X) → HasPutTexts seen device (length tracks) texts after sent later put
          → Stands seen volume row (λ parts. holding parts (Some (filled texts))) progress outs later put
      has_texts texts later put puts before head parts ready writing = puts before head parts first (under_way head parts ready) (now before head parts ready writing)

    module _ (texts : List Track) (now : Stands seen volume row (λ parts. holding parts (Some (filled texts))) progress outs after sent) (whole : Bool) (ends : Ends whole (length texts) part.tracks)
        (piece : Piece) (same : piece ≡ (if whole then pieces.PartEnd else pieces.Dropped)) where
      adds_end : (parts : List DumpPart) → Adds (holding parts (Some (filled texts))) piece (holding (parts ++ filled texts ∷ []) None)
      adds_end parts = subst (λ (p : Piece). Adds (holding parts (Some (filled texts))) p (holding (parts ++ filled texts ∷ []) None)) (sym same) (by whole ends)
        where
          by : (b : Bool) → Ends b (length texts) part.tracks → Adds (holding parts (Some (filled texts))) (if b then pieces.PartEnd else pieces.Dropped) (holding (parts ++ filled texts ∷ []) None)
          by true long = (filled texts, refl, eq-eqb (length texts) part.tracks long, refl)
          by false short = (filled texts, refl, short, refl)

      ended : (head : DumpHead) (parts : List DumpPart) → IsReadyFor volume.device row.name (length (tracks_in volume row)) head parts → IsFront head (holding parts (Some (filled texts)))
          → IsFront head (holding (parts ++ filled texts ∷ []) None)
      ended head parts ready front =
          front_ended head parts (filled texts) ready.logical front (subst (λ (n : ℕ). whole_tracks (holding parts None) + n ≤ largest_count) (sym is.tracks_are) ready.few_tracks)

      -- its last piece may be put
      pub may_end : MayPutPart seen volume.device row.name (length (tracks_in volume row)) progress outs → MayAdd seen piece after sent
      may_end (before, head, parts, ready, writing) =
          let written = now before head parts ready writing in
          (before, head, holding parts (Some (filled texts)), holding (parts ++ filled texts ∷ []) None, written, adds_end parts, ended head parts ready written.stands)

      -- once it is put, the part has ended
      pub has_ended : (later : Progress) (put : List X) → PutsPiece seen piece after sent later put
          → Stands seen volume row (λ parts. holding (parts ++ filled texts ∷ []) None) progress outs later put
      has_ended later put puts before head parts ready writing =
          let written = now before head parts ready writing in
          puts before head (holding parts (Some (filled texts))) (holding (parts ++ filled texts ∷ []) None) written (adds_end parts) (ended head parts ready written.stands)

-- ---- a data set of a session

-- nothing was put
pub left_none : {P X : Type 0} (pools : Ghosts P) (seen : X → OutSeen) (session : SessionView P) (unit : ℕ) (name : Dsn) (progress after : Progress) (outs sent : List X) → IsAt session.units unit name
    → after ≡ progress → sent ≡ outs → LeavesPart pools seen session unit name progress outs after sent
left_none {P} {X} pools seen session unit name progress after outs sent at same put = record {
  at = at;
  current = None;
  of_set = tt;
  put = λ before head parts ready writing.
      subst (λ (s : List X). IsWriting seen before head (holding (parts ++ []) None) after s) (sym put)
      (subst (λ (p : Progress). IsWriting seen before head (holding (parts ++ []) None) p outs) (sym same)
      (subst (λ (l : List DumpPart). IsWriting seen before head (holding l None) progress outs) (sym (append-nil parts)) writing));
}

module _ {P : Type 0} (pools : Ghosts P) (session : SessionView P) (unit : ℕ) (name : Dsn) (piece : Piece) (set : SetTracks) (found : IsSetToDump session.units unit name piece set)
    (kept : (u : ℕ) (state : UnitState) → slice_get session.units u ≡ Some state
    → (slots : List ℕ) × IsKept false ((pools.shape session.pool).head u) ((pools.shape session.pool).blocks u) state slots) where
  abbrev volume : Volume
  volume = found.at.volume

  abbrev row : Row
  row = found.at.row

  abbrev there : Contains volume.rows row
  there = found.at.row_is.there

  -- the slots from which its volume was loaded
  pub slots_of : (slots : List ℕ) × IsFromSlots false ((pools.shape session.pool).head unit) ((pools.shape session.pool).blocks unit) volume slots
  slots_of = kept unit (Online volume) found.at.loaded

  sound : IsSound volume
  sound = sound_of (pools.shape session.pool) session.units kept unit volume found.at.loaded

  -- its tracks are there
  pub tracks_there : All (λ track. track < (pools.shape session.pool).blocks set.unit) set.tracks.items
  tracks_there =
      subst (λ (u : ℕ). All (λ track. track < (pools.shape session.pool).blocks u) set.tracks.items) (sym found.unit_is)
      (subst (λ (l : List ℕ). All (λ track. track < (pools.shape session.pool).blocks unit) l) (sym found.tracks_are) (row_below slots_of.1 row there))

  -- its unit has no more blocks than a head may say
  pub few_there : (pools.shape session.pool).blocks set.unit ≤ 65535
  few_there = subst (λ (u : ℕ). (pools.shape session.pool).blocks u ≤ 65535) (sym found.unit_is) (few_blocks slots_of.1)

  -- a block of its unit is a slot of its device
  pub slot_there : (pools.shape session.pool).block_size unit ≡ size_in ((pools.shape session.pool).head unit) → (pools.shape session.pool).block_size set.unit ≡ slot_of set.device
  slot_there said = ap (pools.shape session.pool).block_size found.unit_is ∙ row_slot slots_of.1 (pools.shape session.pool) unit said ∙ ap slot_of (sym found.device_is)

  module _ {X : Type 0} (seen : X → OutSeen) (progress : Progress) (outs : List X) where
    -- what may be put of the name's row may be put of this one
    pub may_here : MayPutSet seen session.units unit name progress outs → MayPutPart seen volume.device row.name (length (tracks_in volume row)) progress outs
    may_here (at, may) =
        let same : at.volume ≡ volume = same_volume session.units unit at.volume volume at.loaded found.at.loaded in
        let has : HasRow volume name at.row = subst (λ (v : Volume). HasRow v name at.row) same at.row_is in
        let one : at.row ≡ row = one_row volume sound at.row row has.there there (one_text name at.row.name row.name has.name_is found.at.row_is.name_is) in
        subst (λ (r : Row). MayPutPart seen volume.device r.name (length (tracks_in volume r)) progress outs) one
        (subst (λ (v : Volume). MayPutPart seen v.device at.row.name (length (tracks_in v at.row)) progress outs) same may)

  module _ (models : pools.tells → (facts : Facts) (models : List UnitModel) → facts.shape ≡ pools.shape session.pool → IsSettled facts (pools.disk session.pool).state models → AreModels session.units models)
      (texts_of : pools.tells → (facts : Facts) (models : List UnitModel) → facts.shape ≡ pools.shape session.pool → IsSettled facts (pools.disk session.pool).state models
      → AreTextsOf session.units models (pools.disk session.pool).state.contents) where
    abbrev slots : ℕ → List ℕ
    slots = (pools.disk session.pool).state.contents unit

    -- the row describes the data set, and its tracks have the data set's texts
    described : ForUnits pools session
        (λ units. (online_is : OnlineVolume) (of_name : DataSet) → IsSet units unit name online_is of_name
        → DescribesSet (heads_of volume.device) row of_name × AreTexts (heads_of volume.device) own_place slots (tracks_in volume row) of_name.texts)
    described told units settled on of_name is =
        let model = model_of session.units units unit (Online volume) (models told (facts_of pools session) units refl settled) found.at.loaded in
        let same : online on ≡ online model.2.0 = same_Some (online on) (online model.2.0) (sym is.online_is ∙ model.1 ∙ ap Some model.2.1) in
        let describes : Describes volume on = subst (λ (v : OnlineVolume). Describes volume v) (sym (same_online on model.2.0 same)) model.2.2 in (
          described_row volume on sound describes name row found.at.row_is of_name is.there is.name_is,
          texts_of told (facts_of pools session) units refl settled unit name volume row of_name
              (record { loaded_is = found.at.loaded; row_is = found.at.row_is; volume = on; online_is = is.online_is; there = is.there; named = is.name_is }),
        )

    few_tracks : All (λ track. track ≤ 65535) (tracks_in volume row)
    few_tracks =
        All-weaker (λ (track : ℕ). track < (pools.shape session.pool).blocks unit) (λ (track : ℕ). track ≤ 65535) (λ track less. omega (arith, less, few_blocks slots_of.1)) (tracks_in volume row)
        (row_below slots_of.1 row there)

    module _ {X : Type 0} (seen : X → OutSeen) (progress after later : Progress) (outs sent put : List X) (result : Result Bool UnitFault)
        (texts : PutsTexts pools seen session set after sent later put result) where
      abbrev part : DumpPart
      part = with_texts (begun found.part.f1 found.part.tracks found.part.kind) texts.texts

      of_row : IsOfRow volume row part
      of_row = record { f1_is = found.of_row.f1_is; tracks_are = found.of_row.tracks_are; kind_is = found.of_row.kind_is }

      within : length texts.texts ≤ length (tracks_in volume row)
      within = subst (λ (l : List ℕ). length texts.texts ≤ length l) found.tracks_are texts.within

      read : pools.tells → AreTexts (heads_of volume.device) own_place slots (take (length texts.texts) (tracks_in volume row)) (map good texts.texts)
      read told =
          subst (λ (u : ℕ). AreTexts (heads_of volume.device) own_place ((pools.disk session.pool).state.contents u) (take (length texts.texts) (tracks_in volume row)) (map good texts.texts)) found.unit_is
          (subst (λ (d : Device). AreTexts (heads_of d) own_place ((pools.disk session.pool).state.contents set.unit) (take (length texts.texts) (tracks_in volume row)) (map good texts.texts)) found.device_is
          (subst (λ (l : List ℕ). AreTexts (heads_of set.device) own_place ((pools.disk session.pool).state.contents set.unit) (take (length texts.texts) l) (map good texts.texts)) found.tracks_are
          (texts.read told)))

      -- the texts so far are a front of the data set's
      pub left_some : Stands seen volume row (λ parts. holding parts (Some part)) progress outs later put → (last : Progress) (left : List X) → last ≡ later → left ≡ put
          → LeavesPart pools seen session unit name progress outs last left
      left_some now last left same kept_outs = record {
        at = found.at;
        current = Some part;
        of_set = λ told units settled on of_name is.
            let both = described told units settled on of_name is in
            front_part volume row on of_name both.0 volume.device slots few_tracks both.1 part of_row within (read told);
        put = λ before head parts ready writing.
            subst (λ (s : List X). IsWriting seen before head (holding (parts ++ []) (Some part)) last s) (sym kept_outs)
            (subst (λ (p : Progress). IsWriting seen before head (holding (parts ++ []) (Some part)) p put) (sym same)
            (subst (λ (l : List DumpPart). IsWriting seen before head (holding l (Some part)) later put) (sym (append-nil parts)) (now before head parts ready writing)));
      }

      no_text : (track : ℕ) → (pools.tells → IsReadAs (heads_of set.device) track ((pools.disk session.pool).state.contents set.unit track) None)
          → pools.tells → IsReadAs (heads_of volume.device) track (slots track) None
      no_text track none told =
          subst (λ (u : ℕ). IsReadAs (heads_of volume.device) track ((pools.disk session.pool).state.contents u track) None) found.unit_is
          (subst (λ (d : Device). IsReadAs (heads_of d) track ((pools.disk session.pool).state.contents set.unit track) None) found.device_is (none told))

      of_the_set : (whole : Bool) → StopsAt pools session set texts.texts whole
          → ForUnits pools session (λ units. (on : OnlineVolume) (of_name : DataSet) → IsSet units unit name on of_name → IsPartOfSet on of_name part)
      of_the_set true long told units settled on of_name is =
          let both = described told units settled on of_name is in
          whole_part volume row on of_name both.0 volume.device slots few_tracks both.1 part of_row within (read told) (long ∙ ap length found.tracks_are)
      of_the_set false (track, at, none) told units settled on of_name is =
          let both = described told units settled on of_name is in
          stopped_part volume row on of_name both.0 volume.device slots few_tracks both.1 part of_row within (read told) track
          (subst (λ (l : List ℕ). slice_get l (length texts.texts) ≡ Some track) found.tracks_are at) (no_text track none told)

      -- all texts are there, or fewer
      pub ends_of : (whole : Bool) → StopsAt pools session set texts.texts whole → Ends whole (length texts.texts) found.part.tracks
      ends_of true long = long ∙ ap length found.tracks_are ∙ sym found.of_row.tracks_are
      ends_of false (track, at, none) = omega (arith, slice_get_within set.tracks.items (length texts.texts) track at, ap length found.tracks_are, found.of_row.tracks_are)

      is_ended : (whole : Bool) → Ends whole (length texts.texts) found.part.tracks → is_whole part ≡ whole
      is_ended true long = eq-eqb (length texts.texts) found.part.tracks long
      is_ended false short = ne_eqb (length texts.texts) found.part.tracks (λ same. absurd (omega (arith, same, short)))

      -- the part ended
      pub put_part : (whole : Bool) → StopsAt pools session set texts.texts whole → (last : Progress) (gone : List X)
          → Stands seen volume row (λ parts. holding (parts ++ part ∷ []) None) progress outs last gone → PutsPart pools seen session unit name progress outs last gone whole
      put_part whole stops last gone now = record {
        at = found.at;
        part = part;
        of_row = of_row;
        whole_is = is_ended whole (ends_of whole stops);
        of_set = of_the_set whole stops;
        put = now;
      }

  -- ---- the calls

  module _ {X : Type 0} (seen : X → OutSeen) (progress : Progress) (outs : List X) (may : MayPutSet seen session.units unit name progress outs) where
    -- the part may begin
    pub begin_here : MayAdd seen piece progress outs
    begin_here = may_begin seen slots_of.1 row there found.part found.of_row piece found.head_is progress outs (may_here seen progress outs may)

    module _ (after : Progress) (sent : List X) (begun_puts : PutsPiece seen piece progress outs after sent) where
      begun_here : Stands seen volume row (λ parts. holding parts (Some (begun found.part.f1 found.part.tracks found.part.kind))) progress outs after sent
      begun_here = has_begun seen slots_of.1 row there found.part found.of_row progress after outs sent piece found.head_is begun_puts

      -- its texts may be put
      pub texts_here : MayPutTexts seen set.device (length set.tracks.items) after sent
      texts_here =
          may_texts seen slots_of.1 row there found.part found.of_row progress after outs sent set.device set.tracks.items found.device_is found.tracks_are begun_here (may_here seen progress outs may)

      module _ (later : Progress) (put : List X) (result : Result Bool UnitFault) (texts : PutsTexts pools seen session set after sent later put result) where
        -- they stand there
        pub filled_here : Stands seen volume row (λ parts. holding parts (Some (with_texts (begun found.part.f1 found.part.tracks found.part.kind) texts.texts))) progress outs later put
        filled_here =
            has_texts seen slots_of.1 row there found.part found.of_row progress after outs sent set.device set.tracks.items found.device_is found.tracks_are begun_here texts.texts later put texts.put

        module _ (whole : Bool) (ends : Ends whole (length texts.texts) found.part.tracks) (end : Piece) (same : end ≡ (if whole then pieces.PartEnd else pieces.Dropped)) where
          -- it may end
          pub end_here : MayAdd seen end later put
          end_here =
              may_end seen slots_of.1 row there found.part found.of_row progress later outs put texts.texts filled_here whole ends end same (may_here seen progress outs may)

          -- it ended
          pub ended_here : (last : Progress) (gone : List X) → PutsPiece seen end later put last gone
              → Stands seen volume row (λ parts. holding (parts ++ with_texts (begun found.part.f1 found.part.tracks found.part.kind) texts.texts ∷ []) None) progress outs last gone
          ended_here last gone puts =
              has_ended seen slots_of.1 row there found.part found.of_row progress later outs put texts.texts filled_here whole ends end same last gone puts
