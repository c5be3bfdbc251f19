use Rattle.std.proofs.Common.{◌≡◌, refl, ap, subst, not}
use Rattle.std.specs.Str.{IsUtf8}
use Rattle.js_reader.specs.declared.findings_builder.FindingsBuilder.{FindingsBuilder}
use Rattle.js_lexer.proofs.LexerSteps.{state_of, reader_is, no_token_yet, between_is, sound_after, sound_back}
use Rattle.js_lexer.proofs.LexerSteps.{reads_token}
use Rattle.js_lexer.proofs.Undone.{found_again, may_go_back, read_since, stands_again, undone}
use Rattle.js_lexer.proofs.Sparse.{count_collected, reads_in_places}
use Rattle.js_lexer.proofs.lexer.Lexer.read.Goals as goal

pub invariant_of-self : goal.invariant_of-self
invariant_of-self g c =
    let first = no_token_yet c.self.inside.has_read c.self.inside.found.trivia.attachment.previous in
    let cleared = c.begin_reading.ensures in
    let l = state_of c.self.inside.reader c.self.inside.found _ c.self.inside.decoded in
    rw c.take_token.ensures.read
    (sound_after c.args.goal l _ _ c.in-Ok.token c.read_and_collect-read.new.reader c.read_and_collect-read.new.found
    c.take_token.new.trivia c.read_and_collect-read.new.decoded c.read_and_collect-read.new.reader.source.placed.utf8
    (c.in-Ok.ensures.kept.are_values c.self.invariant.are_values)
    (reader_is c.args.goal c.self.inside.reader c.self.inside.found _ c.self.inside.decoded
    (not c.self.inside.has_read) c.begin_reading.new.trivia c.self.invariant cleared)
    (c.in-Ok.ensures.ok _ first) c.take_token.ensures.last)

pub go_back-requires-clause-boundary : goal.go_back-requires-clause-boundary
go_back-requires-clause-boundary g c =
    rw (c.of-start.ensures.start, c.in-Err.ensures.err.text) c.self.inside.reader.source.placed.boundary

pub go_back-requires-clause-found : goal.go_back-requires-clause-found
go_back-requires-clause-found g c =
    may_go_back c.self.inside.found c.read_and_collect-read.new.found
    (read_since c.args.goal c.of-start.result c.self.inside.reader.source _ c.self.inside.decoded c.self.inside.found
    c.begin_reading.new.trivia c.read_and_collect-read.new.found c.self.invariant c.begin_reading.ensures
    c.read_and_collect-read.ensures.grown c.of-start.ensures.start c.of-start.ensures.ranges)

pub invariant_of-self-in-Err : goal.invariant_of-self-in-Err
invariant_of-self-in-Err g c =
    let source =
    stands_again c.self.inside.found c.self.inside.reader.source c.read_and_collect-read.new.reader.source
    c.go_back.new.source
    c.of-start.ensures.start c.in-Err.ensures.err.text c.go_back.ensures.source in
    let found : c.go_back.new.found ≡ c.self.inside.found =
    found_again c.self.inside.found c.read_and_collect-read.new.found c.go_back.new.found
    (read_since c.args.goal c.of-start.result c.self.inside.reader.source _ c.self.inside.decoded c.self.inside.found
    c.begin_reading.new.trivia c.read_and_collect-read.new.found c.self.invariant c.begin_reading.ensures
    c.read_and_collect-read.ensures.grown c.of-start.ensures.start c.of-start.ensures.ranges) c.go_back.ensures.found in
    sound_back c.self.inside.reader.source c.go_back.new.source c.self.inside.has_read
    c.self.inside.found.trivia c.go_back.new.found.trivia c.self.inside.decoded c.read_and_collect-read.new.decoded
    source (ap (λ (f : FindingsBuilder). f.trivia) found) c.self.invariant
    (c.in-Err.ensures.kept.are_values c.self.invariant.are_values)

pub returns-in-Ok-clause-ok : goal.returns-in-Ok-clause-ok
returns-in-Ok-clause-ok g c =
    let first = no_token_yet c.self.inside.has_read c.self.inside.found.trivia.attachment.previous in
    let cleared = c.begin_reading.ensures in
    let read = c.in-Ok.ensures.ok _ first in
    let tokens = rw c.tokens.ensures at c.in-Ok.ensures.tokens in
    rw (← c.self.view_is, tokens, c.take_token.ensures.read)
    (reads_token _ _ _ _ c.read_and_collect-read.new.reader c.read_and_collect-read.new.found c.take_token.new.trivia
    c.args.goal c.in-Ok.token c.read_and_collect-read.new.decoded
    (subst IsUtf8 read.read.text c.read_and_collect-read.new.reader.source.placed.utf8)
    c.self.inside.reader.source.placed.boundary
    record {
      source = record { text = refl; place = refl };
      source_type = refl;
      listed = refl;
      between =
          between_is c.args.goal c.self.inside.reader.source _ c.self.inside.found.trivia
          c.begin_reading.new.trivia c.self.inside.decoded c.self.invariant cleared;
    } read c.take_token.ensures.last (c.in-Ok.ensures.kept.kept c.self.invariant.are_values) c.in-Ok.ensures.value refl)

pub returns-in-Ok-clause-places : goal.returns-in-Ok-clause-places
returns-in-Ok-clause-places g c =
    let tokens = rw c.tokens.ensures at c.in-Ok.ensures.tokens in
    let count = count_collected _ c.in-Ok.token c.self.inside.tokens _ tokens in
    reads_in_places c.args.goal c.in-Ok.token c.args.self.now _ c.requires (rw (← c.self.view_is) c.self.invariant.behind)
    (returns-in-Ok-clause-ok g c) (rw (← c.self.view_is) count)

pub returns-in-Err-clause-err : goal.returns-in-Err-clause-err
returns-in-Err-clause-err g c =
    let source =
    stands_again c.self.inside.found c.self.inside.reader.source c.read_and_collect-read.new.reader.source
    c.go_back.new.source
    c.of-start.ensures.start c.in-Err.ensures.err.text c.go_back.ensures.source in
    let found : c.go_back.new.found ≡ c.self.inside.found =
    found_again c.self.inside.found c.read_and_collect-read.new.found c.go_back.new.found
    (read_since c.args.goal c.of-start.result c.self.inside.reader.source _ c.self.inside.decoded c.self.inside.found
    c.begin_reading.new.trivia c.read_and_collect-read.new.found c.self.invariant c.begin_reading.ensures
    c.read_and_collect-read.ensures.grown c.of-start.ensures.start c.of-start.ensures.ranges) c.go_back.ensures.found in
    rw (← c.self.view_is)
    (undone _ _ c.self.inside.reader (record c.read_and_collect-read.new.reader { source = c.go_back.new.source })
    c.self.inside.found c.go_back.new.found _ _ c.self.inside.decoded c.read_and_collect-read.new.decoded source
    c.in-Err.ensures.err.source_type found c.in-Err.ensures.same)
