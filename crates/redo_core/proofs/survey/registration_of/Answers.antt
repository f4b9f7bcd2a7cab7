use Rattle.std.proofs.Common.{ℕ, List, length, drop, refl, sym, ap, ◌∙◌, subst, arith}
use Rattle.std.specs.Prelude.{All}
use Rattle.std.proofs.lemmas.Bool.{false≢true}
use Rattle.vol_label.specs.declared.serial.Serial.{Serial}
use Rattle.vol_label.specs.Serial.{IsSerial}
use Rattle.redo_core.specs.declared.fault.JournalFault.{JournalFault}
use Rattle.redo_core.specs.declared.fault.JournalRule.TheVariants as rules
use Rattle.redo_core.specs.Reading.{IsRegistration}
use Rattle.redo_core.specs.Faults.{Breaks}
use Rattle.redo_core.proofs.Surveying.{length-serials_in}
use Rattle.redo_core.proofs.survey.registration_of.Goals as goal

pub returns-then-not-are_serials-clause-refused : goal.returns-then-not-are_serials-clause-refused
returns-then-not-are_serials-clause-refused c =
    subst (λ (f : JournalFault). Breaks rules.Registration ((names : List Serial) (room : ℕ) → ¬ IsRegistration c.args.volumes c.args.block.now names room) f) (sym c.broken-then-not-are_serials.ensures) (
      refl,
      λ names room stands. false≢true (c.if-not-are_serials.ensures.1
          (subst (λ (l : List Serial). All (λ name. IsSerial name.text) l) (stands.names_are ∙ sym c.in_ok-names.ensures ∙ sym c.deref.ensures.value) stands.serials)),
    )

pub returns-clause-found : goal.returns-clause-found
returns-clause-found c = record {
  magic = c.if-not-begins.ensures.0 refl;
  count = sym c.u32_at.ensures ∙ c.if-u32_at-volumes.false;
  some = c.requires.some;
  few = c.requires.few;
  room_is = sym c.u32_at-room.ensures;
  least = omega (arith, c.if-room-lt3.false);
  most = omega (arith, c.if-room-gt8191.false);
  names_are = c.in_ok-names.ensures;
  serials = subst (λ (l : List Serial). All (λ name. IsSerial name.text) l) c.deref.ensures.value (c.if-not-are_serials.ensures.0 refl);
}

pub returns-clause-count : goal.returns-clause-count
returns-clause-count c = ap length c.in_ok-names.ensures ∙ length-serials_in c.args.volumes (drop 16 c.args.block.now)
