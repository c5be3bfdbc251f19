-- The lines of the values of tokens that were taken.
use Rattle.std.proofs.Common.{◌≡◌, ℕ, true, List, [], ◌++◌, ◌∙◌, ap, sym, if◌then◌else◌}
use Rattle.js_kind.specs.TokenParts.{TokenParts}
use Rattle.js_lists.specs.Taken.{Taken}
use Rattle.js_text.specs.declared.value.RowValue.{RowValue}
use Rattle.js_totsenak.specs.Values.{holds_text, text_line, value_line}

-- the line of a string or of a part of a template
pub line_of_text : (source : List ℕ) (x : Taken) (token : TokenParts) (value : RowValue) (old new : List ℕ)
    → x.token ≡ token → holds_text token.kind ≡ true → value ≡ x.value → new ≡ old ++ text_line source value
    → new ≡ old ++ value_line source x
line_of_text source x token value old new is holds same e =
    let test : holds_text x.token.kind ≡ true = ap (λ (t : TokenParts). holds_text t.kind) is ∙ holds in
    e ∙ ap (λ v. old ++ text_line source v) same
    ∙ ap (λ b. old ++ (if b then text_line source x.value else [])) (sym test)
