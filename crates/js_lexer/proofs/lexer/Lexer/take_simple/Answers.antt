use Rattle.std.proofs.Common.{◌≡◌, [], refl, sym, ◌∙◌, ap, subst, Some}
use Rattle.std.specs.Prelude.{is_none}
use Rattle.std.specs.Str.{IsCharBoundary}
use Rattle.js_grammar.specs.declared.goal.Goal.TheVariants.{Next}
use Rattle.js_trivia.specs.Attachment.{Attachment}
use Rattle.js_source.specs.Source.{At}
use Rattle.js_trivia.specs.Trivia.{without_ranges}
use Rattle.js_lexer.specs.Lexer.{IsSound, last_read}
use Rattle.js_reader.specs.Simple.{ReadsSimpleToken, ends_told, moved}
use Rattle.js_reader.proofs.DecodedSteps.{keeps_same, no_value}
use Rattle.js_lexer.proofs.LexerSteps.{state_of, reader_is, between_is, first_token, sound_after, reads_token}
use Rattle.js_reader.proofs.SimpleReadings.{behind_simple_gap, ends_forgotten, moved_on, plain_text}
use Rattle.js_lexer.proofs.Settled.{has_read, holds_at, reads_read, settled_builder}
use Rattle.js_lexer.proofs.Sparse.{count_collected, reads_in_places}
use Rattle.js_lexer.proofs.lexer.Lexer.take_simple.Goals as goal

pub set_position-requires : goal.set_position-requires
set_position-requires g c =
    let r = c.self.inside.reader in
    let p =
    rw (← c.self.view_is) at
    (holds_at (λ at. ReadsSimpleToken at (is_none c.args.self.now.last) c.args.token c.args.source) _ _ r.source
    c.self.view_is refl refl c.requires.reads) in
    let text = plain_text r c.self.inside.found _ _ c.args.token c.args.source p in
    subst (λ t. IsCharBoundary t c.position.result) text
    (subst (λ n. IsCharBoundary c.args.source.text n) (sym c.position.ensures.place) c.args.source.placed.boundary)

pub handle_token_settled-requires : goal.handle_token_settled-requires
handle_token_settled-requires g c =
    let settled = rw (← c.self.view_is) at c.requires.settled in
    settled_builder _ _ c.self.inside.found.trivia c.self.inside.decoded c.self.invariant settled.has_read
    settled.no_pure settled.no_without_side_effects

pub invariant_of-self-2 : goal.invariant_of-self-2
invariant_of-self-2 g c =
    let r = c.self.inside.reader in
    let last = last_read c.self.inside.has_read c.self.inside.found.trivia.attachment.previous in
    let p =
    rw (← c.self.view_is) at
    (holds_at (λ at. ReadsSimpleToken at (is_none c.args.self.now.last) c.args.token c.args.source) _ _ r.source
    c.self.view_is refl refl c.requires.reads) in
    let cleared = without_ranges c.self.inside.found.trivia in
    let before = record c.self.inside.found { trivia = cleared } in
    let new = moved r c.args.source p.line_has_ended in
    let none : c.self.inside.found.trivia.attachment.pending ≡ [] =
    ap (λ (a : Attachment). a.pending) c.self.invariant.attachment in
    let at =
    moved_on r.source c.set_position.new.self c.args.source c.position.result c.set_position.ensures
    c.position.ensures.place (plain_text r before _ _ c.args.token c.args.source p) in
    let settled = rw (← c.self.view_is) at c.requires.settled in
    let read = has_read c.self.inside.has_read c.self.inside.found.trivia.attachment.previous settled.has_read in
    rw read
    (subst
    (λ (a : At).
    IsSound a (Some c.handle_token_settled.new.self.attachment.previous) c.handle_token_settled.new.self
    c.self.inside.decoded)
    (sym at)
    (sound_after Next (state_of r c.self.inside.found last c.self.inside.decoded) (moved r r.source (is_none last))
    before c.args.token new (ends_told p.gap.ends before) c.handle_token_settled.new.self c.self.inside.decoded
    c.args.source.placed.utf8 c.self.invariant.are_values
    (reader_is Next r c.self.inside.found last c.self.inside.decoded (is_none last) cleared c.self.invariant refl)
    (behind_simple_gap last r r.source (is_none last) p.mid p.line_has_ended before c.args.token new before.errors
    (first_token last) p.gap (p.here r before.errors))
    (c.handle_token_settled.ensures ∙ ends_forgotten p.gap.ends cleared c.args.token none)))

pub returns-clause-ok : goal.returns-clause-ok
returns-clause-ok g c =
    let r = c.self.inside.reader in
    let last = last_read c.self.inside.has_read c.self.inside.found.trivia.attachment.previous in
    let p =
    rw (← c.self.view_is) at
    (holds_at (λ at. ReadsSimpleToken at (is_none c.args.self.now.last) c.args.token c.args.source) _ _ r.source
    c.self.view_is refl refl c.requires.reads) in
    let cleared = without_ranges c.self.inside.found.trivia in
    let before = record c.self.inside.found { trivia = cleared } in
    let new = moved r c.args.source p.line_has_ended in
    let none : c.self.inside.found.trivia.attachment.pending ≡ [] =
    ap (λ (a : Attachment). a.pending) c.self.invariant.attachment in
    let tokens = rw c.tokens.ensures at c.in_ok-collect_other.ensures.ok in
    let same = keeps_same r.source.text c.self.inside.decoded c.self.inside.decoded refl in
    let at =
    moved_on r.source c.set_position.new.self c.args.source c.position.result c.set_position.ensures
    c.position.ensures.place (plain_text r before _ _ c.args.token c.args.source p) in
    let settled = rw (← c.self.view_is) at c.requires.settled in
    let read = has_read c.self.inside.has_read c.self.inside.found.trivia.attachment.previous settled.has_read in
    rw (← c.self.view_is, tokens, at)
    (reads_read _ c.args.token _ (record r { source = c.args.source })
    (record c.self.inside.found { trivia = c.handle_token_settled.new.self }) _ _ c.self.inside.decoded read
    (reads_token _ _ (moved r r.source (is_none last)) before new (ends_told p.gap.ends before)
    c.handle_token_settled.new.self
    Next c.args.token c.self.inside.decoded r.source.placed.utf8 r.source.placed.boundary
    record {
      source = record { text = refl; place = refl };
      source_type = refl;
      listed = refl;
      between =
          between_is Next r.source last c.self.inside.found.trivia cleared c.self.inside.decoded c.self.invariant refl;
    }
    (behind_simple_gap last r r.source (is_none last) p.mid p.line_has_ended before c.args.token new before.errors
    (first_token last) p.gap (p.here r before.errors))
    (c.handle_token_settled.ensures ∙ ends_forgotten p.gap.ends cleared c.args.token none)
    (same.kept c.self.invariant.are_values)
    (no_value r.source.text c.self.inside.decoded c.args.token p.escaped) refl))

pub returns-clause-places : goal.returns-clause-places
returns-clause-places g c =
    let tokens = rw c.tokens.ensures at c.in_ok-collect_other.ensures.ok in
    let count = count_collected _ c.args.token c.self.inside.tokens _ tokens in
    reads_in_places Next c.args.token c.args.self.now _ refl (rw (← c.self.view_is) c.self.invariant.behind)
    (returns-clause-ok g c) (rw (← c.self.view_is) count)
