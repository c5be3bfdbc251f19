use Rattle.std.proofs.Common.{◌≡◌, ◌∙◌, ap, refl}
use Rattle.js_text.specs.Ascii.{slash}
use Rattle.js_trivia.specs.Attachment.{Attachment}
use Rattle.js_reader.specs.declared.findings_builder.FindingsBuilder.{FindingsBuilder}
use Rattle.js_lexer.proofs.LexerSteps.{sound_back}
use Rattle.js_lexer.proofs.Undone.{found_again, may_go_back, reported_since, stands_again, undone}
use Rattle.js_grammar.specs.declared.goal.Goal.TheVariants.{RegularExpression}
use Rattle.js_lexer.proofs.Sparse.{stays_in_places}
use Rattle.js_lexer.proofs.TakenAgain.{behind_one, expression_is_plain, plainly, regex_taken, sound_taken}
use Rattle.js_lexer.proofs.lexer.Lexer.read_regex.Goals as goal

pub overflow_sub-offset : goal.overflow_sub-offset
overflow_sub-offset g c =
    (behind_one slash c.offset.result _ c.self.inside.reader c.self.inside.found
    (rw (← c.self.view_is) at c.requires.behind) (rw (← c.self.view_is) at c.requires.bytes) refl
    c.self.invariant c.self.inside.reader.source.placed.utf8 c.offset.ensures.place).0

pub read_expression-requires-clause-boundary : goal.read_expression-requires-clause-boundary
read_expression-requires-clause-boundary g c =
    (behind_one slash c.offset.result _ c.self.inside.reader c.self.inside.found
    (rw (← c.self.view_is) at c.requires.behind) (rw (← c.self.view_is) at c.requires.bytes) refl
    c.self.invariant c.self.inside.reader.source.placed.utf8 c.offset.ensures.place).1.boundary

pub read_expression-requires-clause-here : goal.read_expression-requires-clause-here
read_expression-requires-clause-here g c =
    (behind_one slash c.offset.result _ c.self.inside.reader c.self.inside.found
    (rw (← c.self.view_is) at c.requires.behind) (rw (← c.self.view_is) at c.requires.bytes) refl
    c.self.invariant c.self.inside.reader.source.placed.utf8 c.offset.ensures.place).1.here

pub invariant_of-self : goal.invariant_of-self
invariant_of-self g c =
    let starts =
    behind_one slash c.offset.result _ c.self.inside.reader c.self.inside.found
    (rw (← c.self.view_is) at c.requires.behind) (rw (← c.self.view_is) at c.requires.bytes) refl
    c.self.invariant c.self.inside.reader.source.placed.utf8 c.offset.ensures.place in
    sound_taken _ c.self.inside.reader c.read_expression.new.self c.self.inside.found
    (record c.self.inside.found { errors = c.read_expression.new.errors; trivia = c.take_again.new.trivia })
    (plainly _ c.self.inside.reader c.read_expression.new.self starts.1.token expression_is_plain
    starts.1.last_is (c.in-Ok.ensures.ok starts.1.token starts.1.at).reads
    c.read_expression.new.self.source.placed.utf8) c.self.invariant c.take_again.ensures.last

pub returns-in-Ok-clause-ok : goal.returns-in-Ok-clause-ok
returns-in-Ok-clause-ok g c =
    let starts =
    behind_one slash c.offset.result _ c.self.inside.reader c.self.inside.found
    (rw (← c.self.view_is) at c.requires.behind) (rw (← c.self.view_is) at c.requires.bytes) refl
    c.self.invariant c.self.inside.reader.source.placed.utf8 c.offset.ensures.place in
    let tokens = rw c.tokens-collects.ensures at c.take_again.ensures.collected in
    rw (← c.self.view_is)
    (regex_taken _ c.in-Ok.found c.self.inside.reader c.read_expression.new.self c.self.inside.found
    c.read_expression.new.errors c.take_again.new.trivia
    starts.1.token starts.1.last_is
    (c.in-Ok.ensures.ok starts.1.token starts.1.at) c.read_expression.new.self.source.placed.utf8 c.self.invariant
    c.take_again.ensures.last tokens)

pub returns-in-Ok-clause-places : goal.returns-in-Ok-clause-places
returns-in-Ok-clause-places g c =
    let tokens = rw c.tokens-collects.ensures at c.take_again.ensures.collected in
    stays_in_places RegularExpression _ _ _ c.self.inside.tokens c.take_again.new.tokens c.args.self.now _ refl
    (returns-in-Ok-clause-ok g c).again tokens (rw (← c.self.view_is) refl) refl

pub go_back-requires-clause-boundary : goal.go_back-requires-clause-boundary
go_back-requires-clause-boundary g c =
    rw (c.start_behind_reports-start.ensures.start, c.position-position.ensures.place, c.in-Err.ensures.err.moves.text)
    c.self.inside.reader.source.placed.boundary

pub go_back-requires-clause-found : goal.go_back-requires-clause-found
go_back-requires-clause-found g c =
    let now = record c.self.inside.found { errors = c.read_expression.new.errors } in
    may_go_back c.self.inside.found now
    (reported_since c.start_behind_reports-start.result c.self.inside.reader.source c.self.inside.found now.errors
    (c.start_behind_reports-start.ensures.start ∙ rw (c.position-position.ensures.place, c.len-reported.ensures) refl)
    c.start_behind_reports-start.ensures.ranges (ap (λ (a : Attachment). a.pending) c.self.invariant.attachment)
    c.in-Err.ensures.err.errors)

pub invariant_of-self-in-Err : goal.invariant_of-self-in-Err
invariant_of-self-in-Err g c =
    let now = record c.self.inside.found { errors = c.read_expression.new.errors } in
    let source =
    stands_again c.self.inside.found c.self.inside.reader.source c.read_expression.new.self.source c.go_back.new.source
    (c.start_behind_reports-start.ensures.start ∙ rw (c.position-position.ensures.place, c.len-reported.ensures) refl)
    c.in-Err.ensures.err.moves.text c.go_back.ensures.source in
    let found : c.go_back.new.found ≡ c.self.inside.found =
    found_again c.self.inside.found now c.go_back.new.found
    (reported_since c.start_behind_reports-start.result c.self.inside.reader.source c.self.inside.found now.errors
    (c.start_behind_reports-start.ensures.start ∙ rw (c.position-position.ensures.place, c.len-reported.ensures) refl)
    c.start_behind_reports-start.ensures.ranges (ap (λ (a : Attachment). a.pending) c.self.invariant.attachment)
    c.in-Err.ensures.err.errors) c.go_back.ensures.found in
    sound_back c.self.inside.reader.source c.go_back.new.source c.self.inside.has_read
    c.self.inside.found.trivia c.go_back.new.found.trivia c.self.inside.decoded c.self.inside.decoded
    source (ap (λ (f : FindingsBuilder). f.trivia) found) c.self.invariant
    (c.self.invariant.are_values)

pub returns-in-Err-clause-err : goal.returns-in-Err-clause-err
returns-in-Err-clause-err g c =
    let now = record c.self.inside.found { errors = c.read_expression.new.errors } in
    let source =
    stands_again c.self.inside.found c.self.inside.reader.source c.read_expression.new.self.source c.go_back.new.source
    (c.start_behind_reports-start.ensures.start ∙ rw (c.position-position.ensures.place, c.len-reported.ensures) refl)
    c.in-Err.ensures.err.moves.text c.go_back.ensures.source in
    let found : c.go_back.new.found ≡ c.self.inside.found =
    found_again c.self.inside.found now c.go_back.new.found
    (reported_since c.start_behind_reports-start.result c.self.inside.reader.source c.self.inside.found now.errors
    (c.start_behind_reports-start.ensures.start ∙ rw (c.position-position.ensures.place, c.len-reported.ensures) refl)
    c.start_behind_reports-start.ensures.ranges (ap (λ (a : Attachment). a.pending) c.self.invariant.attachment)
    c.in-Err.ensures.err.errors) c.go_back.ensures.found in
    rw (← c.self.view_is)
    (undone _ _ c.self.inside.reader (record c.read_expression.new.self { source = c.go_back.new.source })
    c.self.inside.found c.go_back.new.found _ _ c.self.inside.decoded c.self.inside.decoded source
    c.in-Err.ensures.err.moves.source_type found refl)
