-- The gravest of messages.
use Rattle.std.proofs.Common.{◌≡◌, ℕ, ◌+◌, ◌<◌, max, List, [], ◌∷◌, ◌++◌, length, take, refl, ap, ◌∙◌, arith}
use Rattle.std.specs.Prelude.{slice_index_or}
use Rattle.std.proofs.lemmas.List.{take_more}
use Rattle.sysin_words.specs.declared.lead.Verb.{Verb}
use Rattle.job_lines.specs.declared.message.Message.{Message}
use Rattle.job_lines.specs.declared.message.Message.TheVariants as messages
use Rattle.job_lines.specs.Severity.{code_of, severity_in, greatest_code}

code_more : (said : List Message) (message : Message) → greatest_code (said ++ (message ∷ [])) ≡ max (code_of (severity_in message)) (greatest_code said)
code_more [] message = refl
code_more (first ∷ said) message = omega (arith, code_more said message)

pub code_next : (said : List Message) (place : ℕ) (d : Message) → place < length said
    → greatest_code (take (place + 1) said) ≡ max (code_of (severity_in (slice_index_or said place d))) (greatest_code (take place said))
code_next said place d less = ap (λ (l : List Message). greatest_code l) (take_more said place d less) ∙ code_more (take place said) (slice_index_or said place d)

-- the lines that a statement started and ended are not grave
pub code_whole : (verb : Verb) (said : List Message) (code : ℕ) → greatest_code (messages.Started verb ∷ (said ++ (messages.Ended verb code ∷ []))) ≡ greatest_code said
code_whole verb said code = omega (arith, code_more said (messages.Ended verb code))

pub code_started : (verb : Verb) (said : List Message) → greatest_code (messages.Started verb ∷ said) ≡ greatest_code said
code_started verb said = omega arith
