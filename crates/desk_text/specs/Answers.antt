-- An answer as it is sent.
use Rattle.std.specs.Prelude.{ℕ, List, [], ◌∷◌, ◌++◌, codes, length, unwrap_or, ◌==◌, if◌then◌else◌, IsTrue, not, ◌||◌}
use Rattle.std.specs.List.{list_any}
use Rattle.std.specs.Fmt.{decimal}
use Rattle.http.specs.StatusCode.{code_digits, reason_phrase}

abbrev pub line_end : List ℕ
line_end = 13 ∷ 10 ∷ []

-- the statuses that the desk answers
abbrev pub IsDeskStatus : ℕ → Type 0
IsDeskStatus status = IsTrue (list_any (λ s. s == status) (200 ∷ 201 ∷ 204 ∷ 400 ∷ 404 ∷ 405 ∷ 409 ∷ 411 ∷ 413 ∷ 429 ∷ 500 ∷ 503 ∷ 507 ∷ []))

-- an answer of the desk: it has one of these statuses, and a 204 has no body
abbrev pub IsDeskAnswer : ℕ → List ℕ → Type 0
IsDeskAnswer status body = IsDeskStatus status × IsTrue (not (status == 204) || (length body == 0))

-- the phrase that `http` gives
unfoldable pub phrase : ℕ → List ℕ
phrase status = unwrap_or (reason_phrase status) []

unfoldable pub status_line : ℕ → List ℕ
status_line status = codes "HTTP/1.1 " ++ (code_digits status ++ (codes " " ++ (phrase status ++ line_end)))

-- what is said of a body: nothing where there is none
unfoldable pub body_lines : ℕ → ℕ → List ℕ
body_lines status size = if status == 204 then [] else (codes "content-type: application/json" ++ line_end) ++ (codes "content-length: " ++ (decimal size ++ line_end))

-- the lines before the body, and the empty one
unfoldable pub head_text : ℕ → ℕ → List ℕ
head_text status size = status_line status ++ (body_lines status size ++ ((codes "connection: close" ++ line_end) ++ line_end))

unfoldable pub answer_text : ℕ → List ℕ → List ℕ
answer_text status body = head_text status (length body) ++ body
