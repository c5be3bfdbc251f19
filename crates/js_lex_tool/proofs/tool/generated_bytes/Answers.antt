use Rattle.std.proofs.Common.{◌≡◌, ℕ, List, subst, sym}
use Rattle.std.specs.Str.{IsUtf8}
use Rattle.std.proofs.lemmas.Result.{IfOk-weaker}
use Rattle.std.proofs.lemmas.Str.{IsUtf8-string_bytes}
use Rattle.js_lex_tool.proofs.tool.generated_bytes.Goals as goal

pub returns-clause-utf8 : goal.returns-clause-utf8
returns-clause-utf8 c =
    let utf8 : IsUtf8 c.into_bytes.result.items =
    rw c.into_bytes.ensures.value (IsUtf8-string_bytes c.in_ok-text.text) in
    IfOk-weaker c.from_vec.result (λ (source : List ℕ). source ≡ c.into_bytes.result.items) IsUtf8
    (λ source is. subst (λ (bytes : List ℕ). IsUtf8 bytes) (sym is) utf8) c.from_vec.ensures
