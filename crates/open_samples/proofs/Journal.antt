-- The sample pools read as their control blocks say, and their label has its name. Blocks on which no meaning rests may be others.
use Rattle.std.proofs.Common.{◌≡◌, inl, true, ℕ, zero, suc, ◌<◌, List, Bool, false, [], ◌∷◌, refl, sym, ap, subst, ◌∙◌, arith}
use Rattle.std.specs.Prelude.{slice_get, Some}
use Rattle.std.proofs.lemmas.Option.{slice_get_within}
use Rattle.std.proofs.lemmas.List.Elements.{All-nil, All-cons}
use Rattle.ckd_image.specs.declared.device.Device.{Device}
use Rattle.ckd_image.specs.declared.device.Device.TheVariants.{D3390}
use Rattle.ckd_image.specs.declared.track.Track.{Track}
use Rattle.ckd_image.proofs.Devices.{one_device}
use Rattle.vol_label.specs.declared.serial.Serial.{Serial}
use Rattle.vol_label.specs.declared.label.Label.{Label}
use Rattle.vol_label.specs.Label.{IsLabel}
use Rattle.vol_label.specs.Serial.{IsSerial}
use Rattle.vol_label.proofs.OneLabel.{one_label}
use Rattle.dasd_pool.specs.Disk.{Image, State}
use Rattle.redo_core.specs.declared.control.Control.{Control}
use Rattle.redo_core.specs.Format.{control_in, is_filling}
use Rattle.redo_core.specs.Reading.{IsControl, Reading, Obeys, Reads}
use Rattle.redo_core.specs.Faults.{LabelsAre}
use Rattle.volume_model.specs.Reads.{IsUnit, IsVital}
use Rattle.volume_model.specs.Unit.{UnitModel}
use Rattle.volume_model.proofs.OneText.{one_text_on}
use Rattle.move_core.specs.Facts.{Facts}
use Rattle.move_core.specs.Stands.{is_sliding, place_in, AreUnits, RestsOn, AreUnused, Means, Stands, IsSettled}
use Rattle.move_core.proofs.Standing.{image_stands}
use Rattle.move_core.proofs.Unused.{masked, masked_settled, masked_left}
use Rattle.open_samples.specs.Pool.{serial, slots, volume_head, label_track, shape, blocks, facts}
use Rattle.open_samples.proofs.Volume.{head_is, head_stands, label_is, label_stands, first_stands, serial_stands}

pub labels : (control : List ℕ) → LabelsAre shape (blocks control) (serial ∷ []) 1
labels control zero other less has =
    let device : has.device ≡ D3390 = one_device volume_head has.device D3390 has.head.named head_stands.named in
    let track : has.label.track ≡ label_track = one_text_on D3390 0 (slots 0) has.label.track label_track has.label.text first_stands in
    let label : has.label.label ≡ label_is =
    one_label head_is label_track.recs has.label.label label_is
    (subst (λ (d : Device). IsLabel (record { device = d; tracks = 60 }) label_track.recs has.label.label) device
    (subst (λ (t : Track). IsLabel (record { device = has.device; tracks = 60 }) t.recs has.label.label) track has.label.stands)) label_stands in
    ap (λ (name : Serial). Some name) (sym (ap (λ (l : Label). l.serial) label) ∙ has.label.serial_is)
labels control (suc u) other less has = absurd (omega (arith, less))

one_there : (x y : UnitModel) → Some x ≡ Some y → x ≡ y
one_there x y same = cc

module _ (block : List ℕ) (control : Control) where
  -- what the pool says with this control block
  abbrev pub reading : Reading
  reading = record { volumes = blocks block; names = serial ∷ []; room = 3; control = control; fills = is_filling block }

  abbrev place : ℕ → ℕ
  place = place_in control 0

  -- the one unit of it
  pub units_are : (unit : UnitModel) → IsUnit (is_filling block 0) (is_sliding control 0) place volume_head 60 slots unit → AreUnits shape reading (unit ∷ [])
  units_are unit is = record { count = refl; each = each }
    where
      each : (u : ℕ) (model : UnitModel) → slice_get (unit ∷ []) u ≡ Some model
          → IsUnit (is_filling block u) (is_sliding control u) (place_in control u) (shape.head u) (shape.blocks u) (blocks block u) model
      each zero model at = subst (IsUnit (is_filling block 0) (is_sliding control 0) place volume_head 60 slots) (one_there unit model at) is
      each (suc u) model at = absurd (omega (arith, slice_get_within (unit ∷ []) (suc u) model at))

  -- blocks on which its meaning doesn't rest
  pub unused : (may : ℕ → ℕ → Bool) (unit : UnitModel) → ((b : ℕ) → may 1 b ≡ false) → ((b : ℕ) → b < 60 → IsVital place volume_head 60 slots unit b → may 0 b ≡ false)
      → AreUnused may shape reading (unit ∷ [])
  unused may unit journal volume = record { journal = journal; volumes = volumes }
    where
      volumes : (u b : ℕ) → u < 1 → RestsOn shape reading (unit ∷ []) u b → may u b ≡ false
      volumes zero b less (model, at, there, vital) =
          volume b there (subst (λ (m : UnitModel). IsVital place volume_head 60 slots m b) (sym (one_there unit model at)) vital)
      volumes (suc u) b less rests = absurd (omega (arith, less))

  module _ (control_is : control ≡ control_in block) (stands : IsControl shape block) where
    obeys : Obeys shape (blocks block) reading
    obeys = record {
      head = record { text = refl; size = refl };
      registration = record {
        magic = (_, refl);
        count = refl;
        some = omega arith;
        few = omega arith;
        room_is = refl;
        least = omega arith;
        most = omega arith;
        names_are = refl;
        serials = All-cons (λ (name : Serial). IsSerial name.text) serial [] serial_stands (All-nil (λ (name : Serial). IsSerial name.text));
      };
      body = λ opened. absurd (cc (opened));
      control = stands;
      control_is = control_is;
      fills_are = λ u less. refl;
    }

    pub reads : Reads shape (blocks block) reading
    reads = record { obeys = obeys; long = omega arith; volumes_are = λ u b less. refl }

    -- and means
    abbrev pub pool_stands : (units : List UnitModel) → Means shape reading units → Stands facts (blocks block) units
    pool_stands units means = record { reading = reading; reads = reads; names_are = refl; room_is = refl; labels = labels block; means = means }

pub stands_still : (may : ℕ → ℕ → Bool) (facts : Facts) (image other : Image) (units : List UnitModel) → (stands : Stands facts image units)
    → AreUnused may facts.shape stands.reading stands.means.found → ((u b : ℕ) → may u b ≡ false → other u b ≡ image u b) → Stands facts other units
stands_still may facts image other units stands unused same =
    let state : State = record { contents = image; synced = λ u b. true } in
    let settled : IsSettled facts state units = record { stands = stands; journal = λ b. refl; vital = λ u b less rests. inl refl } in
    image_stands facts (masked may state) units other (masked_settled may facts state units settled unused) (masked_left may state other (λ u b out was. same u b out))
