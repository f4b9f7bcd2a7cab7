-- SET and IF are read exactly.
use Rattle.std.proofs.Common.{◌≡◌, inl, inr, ℕ, List, [], ◌∷◌, ◌++◌, refl, sym, ap, subst, ◌∙◌, Bool, true, false, append-nil}
use Rattle.std.specs.Prelude.{codes}
use Rattle.by_rules.specs.declared.criterion.Op.TheVariants as ops
use Rattle.sysin_text.specs.declared.token.Token.{Token}
use Rattle.sysin_text.specs.declared.token.Token.TheVariants.{Word, Equal}
use Rattle.sysin_text.proofs.OneMore.{one_more, with_rest}
use Rattle.sysin_words.specs.declared.code.Which.TheVariants as whiches
use Rattle.sysin_words.specs.Code.{op_of}
use Rattle.sysin_values.specs.declared.fault.ValueFault.{ValueFault}
use Rattle.sysin_values.specs.declared.fault.ValueFault.TheVariants as faults
use Rattle.sysin_values.specs.Begun.{CanGoOn, Begin}
use Rattle.sysin_values.specs.Exact.{IsExact, OneValue}
use Rattle.sysin_heads.specs.declared.head.Head.{Head}
use Rattle.sysin_heads.specs.declared.head.Head.TheVariants as heads
use Rattle.sysin_heads.specs.declared.head.HeadPlace.{HeadPlace}
use Rattle.sysin_heads.specs.declared.head.HeadPlace.TheVariants as places
use Rattle.sysin_heads.specs.Head.{IsHead}
use Rattle.sysin_heads.specs.Reading.{Goes, Stops, Gives, Reads}

abbrev After : List Token → HeadPlace → Type 0
After text place = Reads place text

-- one more token
goes : (old new : HeadPlace) (text : List Token) (token : Token) → Reads old text → Goes old token new → Reads new (text ++ token ∷ [])
goes places.Start new text token r (inl ((word, e, says), is)) =
    subst (After (text ++ token ∷ [])) (sym is) (word, one_more text [] token (Word word) r e, says)
goes places.Start new text token r (inr ((word, e, says), is)) =
    subst (After (text ++ token ∷ [])) (sym is) (word, one_more text [] token (Word word) r e, says)
goes places.Set new text token (set, t, l) (which, (word, e, says), is) =
    subst (After (text ++ token ∷ [])) (sym is) (set, word, one_more text (Word set ∷ []) token (Word word) t e, l, says)
goes (places.SetName which) new text token (set, name, t, l, n) (e, is) =
    subst (After (text ++ token ∷ [])) (sym is) (set, name, one_more text (Word set ∷ Word name ∷ []) token Equal t e, l, n)
goes (places.SetSign which) new text token (set, name, t, l, n) (code, (word, e, says), is) =
    subst (After (text ++ token ∷ [])) (sym is) (set, name, word, one_more text (Word set ∷ Word name ∷ Equal ∷ []) token (Word word) t e, l, n, says)
goes places.If new text token (set, t, l) (which, (word, e, says), is) =
    subst (After (text ++ token ∷ [])) (sym is) (set, word, one_more text (Word set ∷ []) token (Word word) t e, l, says)
goes (places.IfName which) new text token (set, name, t, l, n) (op, says, is) =
    subst (After (text ++ token ∷ [])) (sym is) (set, name, token, one_more text (Word set ∷ Word name ∷ []) token token t refl, l, n, says)
goes (places.IfOp which op) new text token (set, name, compared, t, l, n, o) (code, (word, e, says), is) =
    subst (After (text ++ token ∷ [])) (sym is) (set, name, compared, word, one_more text (Word set ∷ Word name ∷ compared ∷ []) token (Word word) t e, l, n, o, says)
goes (places.IfCode which op code) new text token (set, name, compared, value, t, l, n, o, v) ((word, e, says), is) =
    subst (After (text ++ token ∷ [])) (sym is) (set, name, compared, value, word, one_more text (Word set ∷ Word name ∷ compared ∷ Word value ∷ []) token (Word word) t e, l, n, o, v, says)
goes (places.Ended head) new text token r g = absurd g

-- what can still come
abbrev maxcc : List ℕ
maxcc = codes "MAXCC"

abbrev nought : List ℕ
nought = codes "0"

abbrev then_word : List ℕ
then_word = codes "THEN"

right : (place : HeadPlace) (text : List Token) → Reads place text → CanGoOn IsHead true text
right places.Start text r =
    let rest : List Token = Word (codes "SET") ∷ Word maxcc ∷ Equal ∷ Word nought ∷ [] in
    (rest, heads.Set whiches.Max 0, (codes "SET", maxcc, nought, with_rest text [] rest r, refl, refl, refl))
right places.Set text (set, t, l) =
    let rest : List Token = Word maxcc ∷ Equal ∷ Word nought ∷ [] in
    (rest, heads.Set whiches.Max 0, (set, maxcc, nought, with_rest text (Word set ∷ []) rest t, l, refl, refl))
right (places.SetName which) text (set, name, t, l, n) =
    let rest : List Token = Equal ∷ Word nought ∷ [] in
    (rest, heads.Set which 0, (set, name, nought, with_rest text (Word set ∷ Word name ∷ []) rest t, l, n, refl))
right (places.SetSign which) text (set, name, t, l, n) =
    let rest : List Token = Word nought ∷ [] in
    (rest, heads.Set which 0, (set, name, nought, with_rest text (Word set ∷ Word name ∷ Equal ∷ []) rest t, l, n, refl))
right places.If text (set, t, l) =
    let rest : List Token = Word maxcc ∷ Equal ∷ Word nought ∷ Word then_word ∷ [] in
    (rest, heads.If whiches.Max ops.Equal 0, (set, maxcc, Equal, nought, then_word, with_rest text (Word set ∷ []) rest t, l, refl, refl, refl, refl))
right (places.IfName which) text (set, name, t, l, n) =
    let rest : List Token = Equal ∷ Word nought ∷ Word then_word ∷ [] in
    (rest, heads.If which ops.Equal 0, (set, name, Equal, nought, then_word, with_rest text (Word set ∷ Word name ∷ []) rest t, l, n, refl, refl, refl))
right (places.IfOp which op) text (set, name, compared, t, l, n, o) =
    let rest : List Token = Word nought ∷ Word then_word ∷ [] in
    (rest, heads.If which op 0, (set, name, compared, nought, then_word, with_rest text (Word set ∷ Word name ∷ compared ∷ []) rest t, l, n, o, refl, refl))
right (places.IfCode which op code) text (set, name, compared, value, t, l, n, o, v) =
    let rest : List Token = Word then_word ∷ [] in
    (rest, heads.If which op code, (set, name, compared, value, then_word, with_rest text (Word set ∷ Word name ∷ compared ∷ Word value ∷ []) rest t, l, n, o, v, refl))
right (places.Ended head) text r = ([], head, subst (λ (t : List Token). IsHead true head t) (sym (append-nil text)) r)

-- a token with which the tokens can go on is one that is read
needs : (place : HeadPlace) (text : List Token) (token : Token) (rest : List Token) (limited : Bool) (head : Head) → Reads place text → IsHead limited head ((text ++ token ∷ []) ++ rest)
    → (new : HeadPlace) × Goes place token new
needs places.Start text token rest limited (heads.Set which code) r (w, n, v, whole, lw, wn, cv) =
    let both : token ∷ rest ≡ Word w ∷ Word n ∷ Equal ∷ Word v ∷ [] = ap (λ (t : List Token). (t ++ token ∷ []) ++ rest) (sym r) ∙ whole in
    (places.Set, inl ((w, cc, lw), refl))
needs places.Start text token rest limited (heads.If which op code) r (w, n, c, v, h, whole, lw, wn, oc, cv, th) =
    let both : token ∷ rest ≡ Word w ∷ Word n ∷ c ∷ Word v ∷ Word h ∷ [] = ap (λ (t : List Token). (t ++ token ∷ []) ++ rest) (sym r) ∙ whole in
    (places.If, inr ((w, cc, lw), refl))
needs places.Set text token rest limited (heads.Set which code) (s, t, l) (w, n, v, whole, lw, wn, cv) =
    let both : Word s ∷ token ∷ rest ≡ Word w ∷ Word n ∷ Equal ∷ Word v ∷ [] = ap (λ (t : List Token). (t ++ token ∷ []) ++ rest) (sym t) ∙ whole in
    (places.SetName which, (which, (n, cc, wn), refl))
needs places.Set text token rest limited (heads.If which op code) (s, t, l) (w, n, c, v, h, whole, lw, wn, oc, cv, th) =
    let both : Word s ∷ token ∷ rest ≡ Word w ∷ Word n ∷ c ∷ Word v ∷ Word h ∷ [] = ap (λ (t : List Token). (t ++ token ∷ []) ++ rest) (sym t) ∙ whole in
    cc
needs (places.SetName was) text token rest limited (heads.Set which code) (s, m, t, l, wm) (w, n, v, whole, lw, wn, cv) =
    let both : Word s ∷ Word m ∷ token ∷ rest ≡ Word w ∷ Word n ∷ Equal ∷ Word v ∷ [] = ap (λ (t : List Token). (t ++ token ∷ []) ++ rest) (sym t) ∙ whole in
    (places.SetSign was, (cc, refl))
needs (places.SetName was) text token rest limited (heads.If which op code) (s, m, t, l, wm) (w, n, c, v, h, whole, lw, wn, oc, cv, th) =
    let both : Word s ∷ Word m ∷ token ∷ rest ≡ Word w ∷ Word n ∷ c ∷ Word v ∷ Word h ∷ [] = ap (λ (t : List Token). (t ++ token ∷ []) ++ rest) (sym t) ∙ whole in
    cc
needs (places.SetSign was) text token rest limited (heads.Set which code) (s, m, t, l, wm) (w, n, v, whole, lw, wn, cv) =
    let both : Word s ∷ Word m ∷ Equal ∷ token ∷ rest ≡ Word w ∷ Word n ∷ Equal ∷ Word v ∷ [] = ap (λ (t : List Token). (t ++ token ∷ []) ++ rest) (sym t) ∙ whole in
    (places.Ended (heads.Set was code), (code, (v, cc, cv), refl))
needs (places.SetSign was) text token rest limited (heads.If which op code) (s, m, t, l, wm) (w, n, c, v, h, whole, lw, wn, oc, cv, th) =
    let both : Word s ∷ Word m ∷ Equal ∷ token ∷ rest ≡ Word w ∷ Word n ∷ c ∷ Word v ∷ Word h ∷ [] = ap (λ (t : List Token). (t ++ token ∷ []) ++ rest) (sym t) ∙ whole in
    cc
needs places.If text token rest limited (heads.Set which code) (s, t, l) (w, n, v, whole, lw, wn, cv) =
    let both : Word s ∷ token ∷ rest ≡ Word w ∷ Word n ∷ Equal ∷ Word v ∷ [] = ap (λ (t : List Token). (t ++ token ∷ []) ++ rest) (sym t) ∙ whole in
    cc
needs places.If text token rest limited (heads.If which op code) (s, t, l) (w, n, c, v, h, whole, lw, wn, oc, cv, th) =
    let both : Word s ∷ token ∷ rest ≡ Word w ∷ Word n ∷ c ∷ Word v ∷ Word h ∷ [] = ap (λ (t : List Token). (t ++ token ∷ []) ++ rest) (sym t) ∙ whole in
    (places.IfName which, (which, (n, cc, wn), refl))
needs (places.IfName was) text token rest limited (heads.Set which code) (s, m, t, l, wm) (w, n, v, whole, lw, wn, cv) =
    let both : Word s ∷ Word m ∷ token ∷ rest ≡ Word w ∷ Word n ∷ Equal ∷ Word v ∷ [] = ap (λ (t : List Token). (t ++ token ∷ []) ++ rest) (sym t) ∙ whole in
    cc
needs (places.IfName was) text token rest limited (heads.If which op code) (s, m, t, l, wm) (w, n, c, v, h, whole, lw, wn, oc, cv, th) =
    let both : Word s ∷ Word m ∷ token ∷ rest ≡ Word w ∷ Word n ∷ c ∷ Word v ∷ Word h ∷ [] = ap (λ (t : List Token). (t ++ token ∷ []) ++ rest) (sym t) ∙ whole in
    let sign : token ≡ c = cc in (places.IfOp was op, (op, ap op_of sign ∙ oc, refl))
needs (places.IfOp was by) text token rest limited (heads.Set which code) (s, m, d, t, l, wm, od) (w, n, v, whole, lw, wn, cv) =
    let both : Word s ∷ Word m ∷ d ∷ token ∷ rest ≡ Word w ∷ Word n ∷ Equal ∷ Word v ∷ [] = ap (λ (t : List Token). (t ++ token ∷ []) ++ rest) (sym t) ∙ whole in
    cc
needs (places.IfOp was by) text token rest limited (heads.If which op code) (s, m, d, t, l, wm, od) (w, n, c, v, h, whole, lw, wn, oc, cv, th) =
    let both : Word s ∷ Word m ∷ d ∷ token ∷ rest ≡ Word w ∷ Word n ∷ c ∷ Word v ∷ Word h ∷ [] = ap (λ (t : List Token). (t ++ token ∷ []) ++ rest) (sym t) ∙ whole in
    (places.IfCode was by code, (code, (v, cc, cv), refl))
needs (places.IfCode was by put_code) text token rest limited (heads.Set which code) (s, m, d, u, t, l, wm, od, cu) (w, n, v, whole, lw, wn, cv) =
    let both : Word s ∷ Word m ∷ d ∷ Word u ∷ token ∷ rest ≡ Word w ∷ Word n ∷ Equal ∷ Word v ∷ [] = ap (λ (t : List Token). (t ++ token ∷ []) ++ rest) (sym t) ∙ whole in
    cc
needs (places.IfCode was by put_code) text token rest limited (heads.If which op code) (s, m, d, u, t, l, wm, od, cu) (w, n, c, v, h, whole, lw, wn, oc, cv, th) =
    let both : Word s ∷ Word m ∷ d ∷ Word u ∷ token ∷ rest ≡ Word w ∷ Word n ∷ c ∷ Word v ∷ Word h ∷ [] = ap (λ (t : List Token). (t ++ token ∷ []) ++ rest) (sym t) ∙ whole in
    (places.Ended (heads.If was by put_code), ((h, cc, th), refl))
needs (places.Ended (heads.Set was put_code)) text token rest limited (heads.Set which code) (s, m, u, t, l, wm, cu) (w, n, v, whole, lw, wn, cv) =
    let both : Word s ∷ Word m ∷ Equal ∷ Word u ∷ token ∷ rest ≡ Word w ∷ Word n ∷ Equal ∷ Word v ∷ [] = ap (λ (t : List Token). (t ++ token ∷ []) ++ rest) (sym t) ∙ whole in
    cc
needs (places.Ended (heads.Set was put_code)) text token rest limited (heads.If which op code) (s, m, u, t, l, wm, cu) (w, n, c, v, h, whole, lw, wn, oc, cv, th) =
    let both : Word s ∷ Word m ∷ Equal ∷ Word u ∷ token ∷ rest ≡ Word w ∷ Word n ∷ c ∷ Word v ∷ Word h ∷ [] = ap (λ (t : List Token). (t ++ token ∷ []) ++ rest) (sym t) ∙ whole in
    cc
needs (places.Ended (heads.If was by put_code)) text token rest limited (heads.Set which code) (s, m, d, u, g, t, l, wm, od, cu, tg) (w, n, v, whole, lw, wn, cv) =
    let both : Word s ∷ Word m ∷ d ∷ Word u ∷ Word g ∷ token ∷ rest ≡ Word w ∷ Word n ∷ Equal ∷ Word v ∷ [] = ap (λ (t : List Token). (t ++ token ∷ []) ++ rest) (sym t) ∙ whole in
    cc
needs (places.Ended (heads.If was by put_code)) text token rest limited (heads.If which op code) (s, m, d, u, g, t, l, wm, od, cu, tg) (w, n, c, v, h, whole, lw, wn, oc, cv, th) =
    let both : Word s ∷ Word m ∷ d ∷ Word u ∷ Word g ∷ token ∷ rest ≡ Word w ∷ Word n ∷ c ∷ Word v ∷ Word h ∷ [] = ap (λ (t : List Token). (t ++ token ∷ []) ++ rest) (sym t) ∙ whole in
    cc

no_step : (place : HeadPlace) (token : Token) (fault : ValueFault) → Stops place token fault → (new : HeadPlace) → ¬ Goes place token new
no_step place token faults.Count stop new g = stop
no_step place token faults.Value stop new g = stop.0 new g
no_step place token faults.Word stop new g = stop.0 new g
no_step place token faults.NoMemory stop new g = stop

goes_nowhere : (place : HeadPlace) (text : List Token) (token : Token) (fault : ValueFault) (limited : Bool) → Reads place text → Stops place token fault → ¬ CanGoOn IsHead limited (text ++ token ∷ [])
goes_nowhere place text token fault limited r stop (rest, head, h) =
    let n = needs place text token rest limited head r h in
    no_step place token fault stop n.0 n.1

wrong : (place : HeadPlace) (text : List Token) (token : Token) (fault : ValueFault) → Reads place text → Stops place token fault → ¬ (fault ≡ faults.NoMemory) → ¬ Begin IsHead (text ++ token ∷ [])
wrong place text token fault r stop real (inl g) = goes_nowhere place text token fault true r stop g
wrong place text token fault r stop real (inr e) = goes_nowhere place text token fault false r stop e.longer

-- tokens are of one head at most
pub one_head : OneValue IsHead
one_head (heads.Set a b) (heads.Set c d) text (s, m, u, t, l, wm, cu) (w, n, v, whole, lw, wn, cv) =
    let both : Word s ∷ Word m ∷ Equal ∷ Word u ∷ [] ≡ Word w ∷ Word n ∷ Equal ∷ Word v ∷ [] = sym t ∙ whole in
    let whiches' : a ≡ c = cc in
    let codes' : b ≡ d = cc in
    cc
one_head (heads.Set a b) (heads.If c o d) text (s, m, u, t, l, wm, cu) (w, n, k, v, h, whole, lw, wn, ok, cv, th) =
    let both : Word s ∷ Word m ∷ Equal ∷ Word u ∷ [] ≡ Word w ∷ Word n ∷ k ∷ Word v ∷ Word h ∷ [] = sym t ∙ whole in
    cc
one_head (heads.If c o d) (heads.Set a b) text (w, n, k, v, h, whole, lw, wn, ok, cv, th) (s, m, u, t, l, wm, cu) =
    let both : Word s ∷ Word m ∷ Equal ∷ Word u ∷ [] ≡ Word w ∷ Word n ∷ k ∷ Word v ∷ Word h ∷ [] = sym t ∙ whole in
    cc
one_head (heads.If a p b) (heads.If c o d) text (s, m, j, u, g, t, l, wm, oj, cu, tg) (w, n, k, v, h, whole, lw, wn, ok, cv, th) =
    let both : Word s ∷ Word m ∷ j ∷ Word u ∷ Word g ∷ [] ≡ Word w ∷ Word n ∷ k ∷ Word v ∷ Word h ∷ [] = sym t ∙ whole in
    let whiches' : a ≡ c = cc in
    let ops' : p ≡ o = cc in
    let codes' : b ≡ d = cc in
    cc

-- a whole head is read to its end
given : (place : HeadPlace) (text : List Token) (head : Head) → Reads place text → IsHead true head text → Gives place head
given places.Start text (heads.Set which code) r (w, n, v, whole, lw, wn, cv) =
    let both : [] ≡ Word w ∷ Word n ∷ Equal ∷ Word v ∷ [] = sym r ∙ whole in
    cc
given places.Start text (heads.If which op code) r (w, n, c, v, h, whole, lw, wn, oc, cv, th) =
    let both : [] ≡ Word w ∷ Word n ∷ c ∷ Word v ∷ Word h ∷ [] = sym r ∙ whole in
    cc
given places.Set text (heads.Set which code) (s, t, l) (w, n, v, whole, lw, wn, cv) =
    let both : Word s ∷ [] ≡ Word w ∷ Word n ∷ Equal ∷ Word v ∷ [] = sym t ∙ whole in
    cc
given places.Set text (heads.If which op code) (s, t, l) (w, n, c, v, h, whole, lw, wn, oc, cv, th) =
    let both : Word s ∷ [] ≡ Word w ∷ Word n ∷ c ∷ Word v ∷ Word h ∷ [] = sym t ∙ whole in
    cc
given (places.SetName was) text (heads.Set which code) (s, m, t, l, wm) (w, n, v, whole, lw, wn, cv) =
    let both : Word s ∷ Word m ∷ [] ≡ Word w ∷ Word n ∷ Equal ∷ Word v ∷ [] = sym t ∙ whole in
    cc
given (places.SetName was) text (heads.If which op code) (s, m, t, l, wm) (w, n, c, v, h, whole, lw, wn, oc, cv, th) =
    let both : Word s ∷ Word m ∷ [] ≡ Word w ∷ Word n ∷ c ∷ Word v ∷ Word h ∷ [] = sym t ∙ whole in
    cc
given (places.SetSign was) text (heads.Set which code) (s, m, t, l, wm) (w, n, v, whole, lw, wn, cv) =
    let both : Word s ∷ Word m ∷ Equal ∷ [] ≡ Word w ∷ Word n ∷ Equal ∷ Word v ∷ [] = sym t ∙ whole in
    cc
given (places.SetSign was) text (heads.If which op code) (s, m, t, l, wm) (w, n, c, v, h, whole, lw, wn, oc, cv, th) =
    let both : Word s ∷ Word m ∷ Equal ∷ [] ≡ Word w ∷ Word n ∷ c ∷ Word v ∷ Word h ∷ [] = sym t ∙ whole in
    cc
given places.If text (heads.Set which code) (s, t, l) (w, n, v, whole, lw, wn, cv) =
    let both : Word s ∷ [] ≡ Word w ∷ Word n ∷ Equal ∷ Word v ∷ [] = sym t ∙ whole in
    cc
given places.If text (heads.If which op code) (s, t, l) (w, n, c, v, h, whole, lw, wn, oc, cv, th) =
    let both : Word s ∷ [] ≡ Word w ∷ Word n ∷ c ∷ Word v ∷ Word h ∷ [] = sym t ∙ whole in
    cc
given (places.IfName was) text (heads.Set which code) (s, m, t, l, wm) (w, n, v, whole, lw, wn, cv) =
    let both : Word s ∷ Word m ∷ [] ≡ Word w ∷ Word n ∷ Equal ∷ Word v ∷ [] = sym t ∙ whole in
    cc
given (places.IfName was) text (heads.If which op code) (s, m, t, l, wm) (w, n, c, v, h, whole, lw, wn, oc, cv, th) =
    let both : Word s ∷ Word m ∷ [] ≡ Word w ∷ Word n ∷ c ∷ Word v ∷ Word h ∷ [] = sym t ∙ whole in
    cc
given (places.IfOp was by) text (heads.Set which code) (s, m, d, t, l, wm, od) (w, n, v, whole, lw, wn, cv) =
    let both : Word s ∷ Word m ∷ d ∷ [] ≡ Word w ∷ Word n ∷ Equal ∷ Word v ∷ [] = sym t ∙ whole in
    cc
given (places.IfOp was by) text (heads.If which op code) (s, m, d, t, l, wm, od) (w, n, c, v, h, whole, lw, wn, oc, cv, th) =
    let both : Word s ∷ Word m ∷ d ∷ [] ≡ Word w ∷ Word n ∷ c ∷ Word v ∷ Word h ∷ [] = sym t ∙ whole in
    cc
given (places.IfCode was by put_code) text (heads.Set which code) (s, m, d, u, t, l, wm, od, cu) (w, n, v, whole, lw, wn, cv) =
    let both : Word s ∷ Word m ∷ d ∷ Word u ∷ [] ≡ Word w ∷ Word n ∷ Equal ∷ Word v ∷ [] = sym t ∙ whole in
    cc
given (places.IfCode was by put_code) text (heads.If which op code) (s, m, d, u, t, l, wm, od, cu) (w, n, c, v, h, whole, lw, wn, oc, cv, th) =
    let both : Word s ∷ Word m ∷ d ∷ Word u ∷ [] ≡ Word w ∷ Word n ∷ c ∷ Word v ∷ Word h ∷ [] = sym t ∙ whole in
    cc
given (places.Ended said) text head r h = ap places.Ended (one_head said head text r h)

pub exact : IsExact IsHead places.Start Goes Stops Gives Reads
exact = record {
  begins = refl;
  goes = goes;
  spelled = λ place text head r ended. subst (λ (p : HeadPlace). Reads p text) ended r;
  given = given;
  right = λ place text r. inl (right place text r);
  wrong = wrong;
}
