-- A lexer that was told a token, and of nothing else that its builder of trivia keeps.
use Rattle.std.proofs.Common.{◌≡◌, ℕ, Bool, true, false, refl, sym, ◌∙◌, ap, subst, Option, None}
use Rattle.std.specs.Prelude.{is_none}
use Rattle.js_places.specs.Reserved.{Reserved}
use Rattle.js_kind.specs.TokenParts.{TokenParts}
use Rattle.js_grammar.specs.declared.goal.Goal.TheVariants.{Next}
use Rattle.js_source.specs.Source.{At}
use Rattle.js_source.proofs.Places.{same_at}
use Rattle.js_trivia.specs.Attachment.{Attachment}
use Rattle.js_trivia.specs.Trivia.{Trivia, IsSettled as IsSettledBuilder}
use Rattle.js_reader.specs.Decoded.{Values}
use Rattle.js_reader.specs.Simple.{MeetsByte}
use Rattle.js_reader.specs.declared.findings_builder.FindingsBuilder.{FindingsBuilder}
use Rattle.js_reader.specs.declared.reader.Reader.{Reader}
use Rattle.js_lexer.specs.Lexer.{LexerState, HoldsHere, IsSettled, IsSound, ReadsToken, last_read, lexer_of}

-- where the builder is settled, a token was read
pub read_if_settled : (here : At) (last : Option TokenParts) (trivia : Trivia) (decoded : Values)
    → IsSound here last trivia decoded → IsSettledBuilder trivia → is_none last ≡ false
read_if_settled here last trivia decoded h s =
    sym (ap (λ (a : Attachment). a.saw_newline) h.attachment) ∙ s.saw_none

pub settled_lexer : (collects : Bool) (r : Reader) (found : FindingsBuilder) (read : Bool)
    (tokens : Reserved TokenParts) (decoded : Values)
    → IsSound r.source (last_read read found.trivia.attachment.previous) found.trivia decoded
    → IsSettledBuilder found.trivia → IsSettled (lexer_of collects r found read tokens decoded)
settled_lexer collects r found read tokens decoded h s = record {
  has_read = read_if_settled r.source (last_read read found.trivia.attachment.previous) found.trivia decoded h s;
  no_pure = s.no_pure;
  no_without_side_effects = s.no_without_side_effects;
}

-- the byte that a simple gap has ended at, passed by a copy of the source
pub meets_if_settled : (b : ℕ) (here copied : At) (last : Option TokenParts) (trivia : Trivia) (decoded : Values)
    (source : At) (line_has_ended : Bool) → IsSound here last trivia decoded → IsSettledBuilder trivia
    → copied ≡ here → MeetsByte b copied false source line_has_ended
    → MeetsByte b here (is_none last) source line_has_ended
meets_if_settled b here copied last trivia decoded source line_has_ended h s same meets =
    subst (λ had. MeetsByte b here had source line_has_ended) (sym (read_if_settled here last trivia decoded h s))
    (subst (λ (a : At). MeetsByte b a false source line_has_ended) same meets)

-- what holds of a lexer's place holds of its reader's source
pub holds_at : (holds : At → Type 0) (l now : LexerState) (source : At) → l ≡ now → source.text ≡ l.text
    → source.place ≡ l.place → HoldsHere now holds → holds source
holds_at holds l now source same text place here =
    subst holds (same_at here.0 source
    (here.1.0.text ∙ ap (λ (s : LexerState). s.text) (sym same) ∙ sym text)
    (here.1.0.place ∙ ap (λ (s : LexerState). s.place) (sym same) ∙ sym place)) here.1.1

-- and where one was read, and no range is held, the builder is settled
pub settled_builder : (here : At) (last : Option TokenParts) (trivia : Trivia) (decoded : Values)
    → IsSound here last trivia decoded → is_none last ≡ false → trivia.pure_comments ≡ None
    → trivia.no_side_effects_comments ≡ None → IsSettledBuilder trivia
settled_builder here last trivia decoded h read pure others = record {
  none_waits = ap (λ (a : Attachment). a.pending) h.attachment;
  saw_none = ap (λ (a : Attachment). a.saw_newline) h.attachment ∙ read;
  saw_none_for_comment = ap (λ (a : Attachment). a.saw_newline_for_comment) h.attachment ∙ read;
  no_pure = pure;
  no_without_side_effects = others;
}

pub has_read : (read : Bool) (previous : TokenParts) → is_none (last_read read previous) ≡ false → read ≡ true
has_read true previous e = refl
has_read false previous e = absurd (cc)

-- that a token was read needs no note where one was read before
pub reads_read : (old : LexerState) (token : TokenParts) (collects : Bool) (r : Reader) (found : FindingsBuilder)
    (read : Bool) (tokens : Reserved TokenParts) (decoded : Values) → read ≡ true
    → ReadsToken Next old token (lexer_of collects r found true tokens decoded)
    → ReadsToken Next old token (lexer_of collects r found read tokens decoded)
reads_read old token collects r found read tokens decoded is h =
    subst (λ (b : Bool). ReadsToken Next old token (lexer_of collects r found b tokens decoded)) (sym is) h
