-- The outputs of a name, by what contracts see of outputs.
use Rattle.std.proofs.Common.{◌≡◌, ◌≢◌, ℕ, ◌<◌, ◌≤◌, List, length, map, get_or, Option, Some, None, sym, ap, ◌∙◌, arith}
use Rattle.std.specs.Prelude.{slice_get}
use Rattle.std.specs.Option.{option_map}
use Rattle.std.proofs.lemmas.List.{length-map}
use Rattle.std.proofs.lemmas.Option.{none-some, same_Some, slice_get-map, slice_get-get_or}
use Rattle.dd_names.specs.declared.dd.DdName.{DdName}
use Rattle.dump_fmt.specs.Outs.{OutSeen}
use Rattle.job_outputs.specs.Outputs.{IsPlaceOf}

module _ {X : Type 0} (seen : X → OutSeen) (outs : List X) (name : DdName) where
  -- the outputs before a place have other names
  abbrev pub AreOthers : ℕ → Type 0
  AreOthers place = (other : ℕ) (earlier : X) → other < place → slice_get outs other ≡ Some earlier → (seen earlier).name ≢ name

  others_seen : (place other : ℕ) (earlier : OutSeen) → AreOthers place → other < place → place ≤ length outs → slice_get (map seen outs) other ≡ Some earlier → earlier.name ≢ name
  others_seen place other earlier others less within at same = by (slice_get outs other) (λ x there. others other x less there) (sym (slice_get-map seen outs other) ∙ at)
    where
      by : (found : Option X) → ((x : X) → found ≡ Some x → (seen x).name ≢ name) → option_map seen found ≡ Some earlier → ⊥
      by (Some x) differ is = differ x (λ i. Some x) (ap (λ (out : OutSeen). out.name) (same_Some (seen x) earlier is) ∙ same)
      by None differ is = absurd (none-some earlier is)

  pub found : (place : ℕ) (out : X) → place < length outs → slice_get outs place ≡ Some out → (seen out).name ≡ name → AreOthers place → IsPlaceOf (map seen outs) name place
  found place out less at named others = record {
    out = seen out;
    there = slice_get-map seen outs place ∙ ap (λ (o : Option X). option_map seen o) at;
    name_is = named;
    first = λ other earlier before there. others_seen place other earlier others before (omega (arith, less)) there;
  }

  pub missing : AreOthers (length outs) → (k : ℕ) (d : OutSeen) → k < length (map seen outs) → (get_or (map seen outs) k d).name ≢ name
  missing others k d less =
      others_seen (length outs) k (get_or (map seen outs) k d) others (omega (arith, less, length-map outs seen)) (omega arith) (slice_get-get_or (map seen outs) k d less)
