use Rattle.std.proofs.Common.{true, ◌≡◌, ◌∙◌, ◌++◌, [], ◌∷◌, ◌+◌, ◌<◌, ℕ, List, length, take, drop, get_or, ap, sym, subst, arith, length-append}
use Rattle.std.proofs.lemmas.List.{append-nil}
use Rattle.httparse.specs.declared.spans.HeaderSpan.{HeaderSpan}
use Rattle.httparse.specs.Spans.{header_bytes, span_bytes}
use Rattle.desk_head.specs.declared.field.Found.{Found}
use Rattle.desk_head.specs.Fields.{IsFound, is_named}
use Rattle.desk_head.proofs.FieldLemmas.{seen, seen_more, seen_all, value_named, value_other, named_by, not_named_by, some_found}
use Rattle.desk_head.proofs.field.find_field.Goals as goal

abbrev none : HeaderSpan
none = record { name = record { start = 0; end = 0 }; value = record { start = 0; end = 0 } }

-- a field of the name has its value behind those before it
adds : (input name : List ℕ) (headers : List HeaderSpan) (i : ℕ) → i < length headers → is_named name (header_bytes input (get_or headers i none)).0 ≡ true
    → seen input name (take (i + 1) headers) ≡ seen input name (take i headers) ++ (span_bytes input (get_or headers i none).value ∷ [])
adds input name headers i less is =
    seen_more input name headers i none less ∙ ap (λ (l : List (List ℕ)). seen input name (take i headers) ++ l) (value_named name (header_bytes input (get_or headers i none)) is)

pub loop-header-preserved-then-not-eq_ignore_ascii_case : goal.loop-header-preserved-then-not-eq_ignore_ascii_case
loop-header-preserved-then-not-eq_ignore_ascii_case c =
    let input = c.args.input.now in
    let name = c.args.name.now in
    let i = c.loop-header.header-index in
    let h = get_or c.args.headers.now i none in
    let other = not_named_by name (span_bytes input h.name) c.of.result.now c.eq_ignore_ascii_case.result c.of.ensures c.eq_ignore_ascii_case.ensures.test c.if-not-eq_ignore_ascii_case.true in
    let same : seen input name (take (i + 1) c.args.headers.now) ≡ seen input name (take i c.args.headers.now) =
    seen_more input name c.args.headers.now i none (omega arith)
    ∙ ap (λ (l : List (List ℕ)). seen input name (take i c.args.headers.now) ++ l) (value_other name (header_bytes input h) other)
    ∙ append-nil (seen input name (take i c.args.headers.now)) in
    subst (λ (values : List (List ℕ)). IsFound input values c.loop-header.found) (sym same) c.loop-header.invariant

pub returns-in_default : goal.returns-in_default
returns-in_default c =
    let input = c.args.input.now in
    let name = c.args.name.now in
    let headers = c.args.headers.now in
    let i = c.loop-header.header-index in
    let h = get_or headers i none in
    let is = named_by name (span_bytes input h.name) c.of.result.now c.eq_ignore_ascii_case.result c.of.ensures c.eq_ignore_ascii_case.ensures.test c.if-not-eq_ignore_ascii_case.false in
    let before : 0 < length (seen input name (take i headers)) = some_found input (seen input name (take i headers)) c.loop-header.found c.loop-header.invariant c.in_default.not-None in
    omega (
      arith,
      before,
      ap length (seen_all input name headers (i + 1)),
      length-append (seen input name (take (i + 1) headers)) (seen input name (drop (i + 1) headers)),
      ap length (adds input name headers i (omega arith) is),
      length-append (seen input name (take i headers)) (span_bytes input h.value ∷ []),
    )

pub loop-header-preserved : goal.loop-header-preserved
loop-header-preserved c =
    let input = c.args.input.now in
    let name = c.args.name.now in
    let headers = c.args.headers.now in
    let i = c.loop-header.header-index in
    let h = get_or headers i none in
    let is = named_by name (span_bytes input h.name) c.of.result.now c.eq_ignore_ascii_case.result c.of.ensures c.eq_ignore_ascii_case.ensures.test c.if-not-eq_ignore_ascii_case.false in
    let before : seen input name (take i headers) ≡ [] = subst (λ (found : Found). IsFound input (seen input name (take i headers)) found) c.in-None.is c.loop-header.invariant in
    ((c.requires i none (omega arith)).1, adds input name headers i (omega arith) is ∙ ap (λ (l : List (List ℕ)). l ++ (span_bytes input h.value ∷ [])) before)
