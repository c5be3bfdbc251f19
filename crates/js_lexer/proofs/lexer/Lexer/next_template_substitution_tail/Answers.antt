use Rattle.std.proofs.Common.{◌≡◌, refl, sym, ◌∙◌, ap}
use Rattle.js_lexer.specs.Lexer.{token_or_default}
use Rattle.js_lexer.proofs.LexerSteps.{curly_here, sound_back}
use Rattle.js_trivia.specs.Attachment.{Attachment}
use Rattle.js_reader.specs.declared.findings_builder.FindingsBuilder.{FindingsBuilder}
use Rattle.js_lexer.proofs.Undone.{found_again, may_go_back, reported_since, stands_again, undone}
use Rattle.js_grammar.specs.declared.goal.Goal.TheVariants.{TemplateTail}
use Rattle.js_lexer.proofs.Sparse.{stays_in_places}
use Rattle.js_lexer.proofs.TakenAgain.{part_again, reads_taken, sound_taken}
use Rattle.js_lexer.proofs.lexer.Lexer.next_template_substitution_tail.Goals as goal

pub read_next_part-read-requires-clause-here : goal.read_next_part-read-requires-clause-here
read_next_part-read-requires-clause-here g c =
    let behind = rw (← c.self.view_is) at c.requires in
    let start =
    c.start-offset.ensures ∙ ap (λ t. t.start) c.last_token.ensures.token
    ∙ ap (λ o. (token_or_default o).start) c.requires.last in
    rw start
    (curly_here _ _ behind.token _ behind.last behind.kind_is behind.place c.self.invariant.last_spelled)

pub invariant_of-self : goal.invariant_of-self
invariant_of-self g c =
    let behind = rw (← c.self.view_is) at c.requires in
    let start =
    c.start-offset.ensures ∙ ap (λ t. t.start) c.last_token.ensures.token
    ∙ ap (λ o. (token_or_default o).start) c.requires.last in
    sound_taken _ c.self.inside.reader c.read_next_part-read.new.self c.self.inside.found
    (record c.self.inside.found { errors = c.read_next_part-read.new.errors; trivia = c.take_again.new.trivia })
    (part_again _ c.self.inside.reader c.read_next_part-read.new.self behind.token behind.last
    (c.in-Ok.ensures.ok behind.token (sym start)) c.read_next_part-read.new.self.source.placed.utf8 c.in-Ok.ensures.kept
    c.in-Ok.ensures.value) c.self.invariant c.take_again.ensures.last

pub returns-in-Ok-clause-ok : goal.returns-in-Ok-clause-ok
returns-in-Ok-clause-ok g c =
    let behind = rw (← c.self.view_is) at c.requires in
    let start =
    c.start-offset.ensures ∙ ap (λ t. t.start) c.last_token.ensures.token
    ∙ ap (λ o. (token_or_default o).start) c.requires.last in
    let tokens = rw c.tokens-collects.ensures at c.take_again.ensures.collected in
    rw (← c.self.view_is)
    (reads_taken _ c.self.inside.reader c.read_next_part-read.new.self c.self.inside.found
    c.read_next_part-read.new.errors c.take_again.new.trivia
    (part_again _ c.self.inside.reader c.read_next_part-read.new.self behind.token behind.last
    (c.in-Ok.ensures.ok behind.token (sym start)) c.read_next_part-read.new.self.source.placed.utf8 c.in-Ok.ensures.kept
    c.in-Ok.ensures.value) c.self.invariant c.take_again.ensures.last tokens)

pub returns-in-Ok-clause-places : goal.returns-in-Ok-clause-places
returns-in-Ok-clause-places g c =
    let tokens = rw c.tokens-collects.ensures at c.take_again.ensures.collected in
    stays_in_places TemplateTail _ _ _ c.self.inside.tokens c.take_again.new.tokens c.args.self.now _ refl
    (returns-in-Ok-clause-ok g c) tokens (rw (← c.self.view_is) refl) refl

pub go_back-requires-clause-boundary : goal.go_back-requires-clause-boundary
go_back-requires-clause-boundary g c =
    rw (c.start_behind_reports-start.ensures.start, c.position-position.ensures.place, c.in-Err.ensures.err.moves.text)
    c.self.inside.reader.source.placed.boundary

pub go_back-requires-clause-found : goal.go_back-requires-clause-found
go_back-requires-clause-found g c =
    let now = record c.self.inside.found { errors = c.read_next_part-read.new.errors } in
    may_go_back c.self.inside.found now
    (reported_since c.start_behind_reports-start.result c.self.inside.reader.source c.self.inside.found now.errors
    (c.start_behind_reports-start.ensures.start ∙ rw (c.position-position.ensures.place, c.len-reported.ensures) refl)
    c.start_behind_reports-start.ensures.ranges (ap (λ (a : Attachment). a.pending) c.self.invariant.attachment)
    c.in-Err.ensures.err.errors)

pub invariant_of-self-in-Err : goal.invariant_of-self-in-Err
invariant_of-self-in-Err g c =
    let now = record c.self.inside.found { errors = c.read_next_part-read.new.errors } in
    let source =
    stands_again c.self.inside.found c.self.inside.reader.source c.read_next_part-read.new.self.source
    c.go_back.new.source
    (c.start_behind_reports-start.ensures.start ∙ rw (c.position-position.ensures.place, c.len-reported.ensures) refl)
    c.in-Err.ensures.err.moves.text c.go_back.ensures.source in
    let found : c.go_back.new.found ≡ c.self.inside.found =
    found_again c.self.inside.found now c.go_back.new.found
    (reported_since c.start_behind_reports-start.result c.self.inside.reader.source c.self.inside.found now.errors
    (c.start_behind_reports-start.ensures.start ∙ rw (c.position-position.ensures.place, c.len-reported.ensures) refl)
    c.start_behind_reports-start.ensures.ranges (ap (λ (a : Attachment). a.pending) c.self.invariant.attachment)
    c.in-Err.ensures.err.errors) c.go_back.ensures.found in
    sound_back c.self.inside.reader.source c.go_back.new.source c.self.inside.has_read
    c.self.inside.found.trivia c.go_back.new.found.trivia c.self.inside.decoded c.read_next_part-read.new.decoded
    source (ap (λ (f : FindingsBuilder). f.trivia) found) c.self.invariant
    (c.in-Err.ensures.kept.are_values c.self.invariant.are_values)

pub returns-in-Err-clause-err : goal.returns-in-Err-clause-err
returns-in-Err-clause-err g c =
    let now = record c.self.inside.found { errors = c.read_next_part-read.new.errors } in
    let source =
    stands_again c.self.inside.found c.self.inside.reader.source c.read_next_part-read.new.self.source
    c.go_back.new.source
    (c.start_behind_reports-start.ensures.start ∙ rw (c.position-position.ensures.place, c.len-reported.ensures) refl)
    c.in-Err.ensures.err.moves.text c.go_back.ensures.source in
    let found : c.go_back.new.found ≡ c.self.inside.found =
    found_again c.self.inside.found now c.go_back.new.found
    (reported_since c.start_behind_reports-start.result c.self.inside.reader.source c.self.inside.found now.errors
    (c.start_behind_reports-start.ensures.start ∙ rw (c.position-position.ensures.place, c.len-reported.ensures) refl)
    c.start_behind_reports-start.ensures.ranges (ap (λ (a : Attachment). a.pending) c.self.invariant.attachment)
    c.in-Err.ensures.err.errors) c.go_back.ensures.found in
    rw (← c.self.view_is)
    (undone _ _ c.self.inside.reader (record c.read_next_part-read.new.self { source = c.go_back.new.source })
    c.self.inside.found c.go_back.new.found _ _ c.self.inside.decoded c.read_next_part-read.new.decoded source
    c.in-Err.ensures.err.moves.source_type found refl)
