use Rattle.std.proofs.Common.{◌≡◌, true, false, sym, ◌∙◌, ap}
use Rattle.std.proofs.lemmas.Bool.{and_parts}
use Rattle.std.specs.Prelude.{◌==◌}
use Rattle.js_text.specs.Ascii.{hyphen_minus}
use Rattle.js_text.specs.Characters.{begins, from_place}
use Rattle.js_kind.specs.Kinds.{is_identifier_name}
use Rattle.js_lexer.specs.Lexer.{token_or_default}
use Rattle.js_session.proofs.AgainLemmas.{name_stands}
use Rattle.js_bench.proofs.step.read_jsx_name.Goals as goal

pub continue_lex_jsx_identifier-requires : goal.continue_lex_jsx_identifier-requires
continue_lex_jsx_identifier-requires g c =
    let parts = and_parts _ _ c.requires.fits in
    name_stands c.args.lexer.now c.last_token.result c.start-start.result c.last_token.ensures.token
    (ap (λ t. is_identifier_name t.kind) c.last_token.ensures.token ∙ parts.0) c.start-start.ensures c.requires.behind

pub returns : goal.returns
returns g c = c.in-Some.ensures.token.1

pub unreachable-requires : goal.unreachable-requires
unreachable-requires g c =
    let last = token_or_default c.args.lexer.now.last in
    let parts =
    and_parts (is_identifier_name last.kind)
    (begins (λ d. d == hyphen_minus) (from_place c.args.lexer.now.text last.end)) c.requires.fits in
    let here : begins (λ d. d == hyphen_minus) (from_place c.args.lexer.now.text c.args.lexer.now.place) ≡ true =
    ap (λ n. begins (λ d. d == hyphen_minus) (from_place c.args.lexer.now.text n)) c.requires.behind ∙ parts.1 in
    absurd (let no : true ≡ false = sym here ∙ c.in-None.ensures.token.0 in cc)
