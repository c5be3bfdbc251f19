use Rattle.js_process.proofs.Pieces.{length_within}
use Rattle.js_process.proofs.Rooms.{bytes_behind, bytes_read, length_behind, no_read, one_more_read}
use Rattle.std.proofs.Common.{◌≤◌, length, rules, subst, sym}
use Rattle.std.specs.Io.KnownBytes.{Consumes}
use Rattle.std.proofs.KnownBytes.{Consumes-kept, Consumes-trans}
use Rattle.js_process.proofs.read_all.read_to_end.Goals as goal

pub returns-in_err-extend_from_slice-in-Took-clause-bounded :
    goal.returns-in_err-extend_from_slice-in-Took-clause-bounded
returns-in_err-extend_from_slice-in-Took-clause-bounded g c =
    (_, Consumes-trans _ _ _ _ _ c.loop-buf.invariant.0 c.in-Took.ensures.bytes, length_within _ _ _ _ (search rules))

pub returns-in-End-clause-bounded : goal.returns-in-End-clause-bounded
returns-in-End-clause-bounded g c =
    (_, Consumes-kept _ _ _ _ c.loop-buf.invariant.0 c.in-End.ensures.bytes.0, c.loop-buf.invariant.1)

pub returns-in-Failed-clause-bounded : goal.returns-in-Failed-clause-bounded
returns-in-Failed-clause-bounded g c =
    (_, Consumes-kept _ _ _ _ c.loop-buf.invariant.0 c.in-Failed.ensures.bytes, c.loop-buf.invariant.1)

pub loop-buf-init : goal.loop-buf-init
loop-buf-init g c = (search rules, search rules, search rules, λ e. e, no_read _ _ _ _ (search rules))

pub loop-buf-preserved : goal.loop-buf-preserved
loop-buf-preserved g c =
    let few : c.in-Took.count ≤ length c.read.new.buf = search rules in
    let same = bytes_behind (c.extend_from_slice.new.self) _ _ _ _ c.in_ok-extend_from_slice-in-Took.ensures.ok few in
    let more = length_behind (c.extend_from_slice.new.self) _ _ (c.in-Took.count) same few in (
      subst (Consumes _ _) (sym same)
          (Consumes-trans _ _ _ _ _ c.loop-buf.invariant.0 c.in-Took.ensures.bytes),
      search (rules, more),
      search rules,
      search rules,
      bytes_read _ _ _ _ _ _ _ _ _ _ c.loop-buf.invariant.4 c.in-Took.ensures.gives (search rules) (search rules) more,
    )

pub returns-in_err-extend_from_slice-in-Took-clause-room : goal.returns-in_err-extend_from_slice-in-Took-clause-room
returns-in_err-extend_from_slice-in-Took-clause-room g c =
    (_, one_more_read _ _ _ _ _ _ _ _ c.loop-buf.invariant.4 c.in-Took.ensures.gives (search rules))

pub returns-in-End-clause-room : goal.returns-in-End-clause-room
returns-in-End-clause-room g c =
    (_, one_more_read _ _ _ _ _ _ _ _ c.loop-buf.invariant.4 c.in-End.ensures.gives (search rules))

pub returns-in-Failed-clause-room : goal.returns-in-Failed-clause-room
returns-in-Failed-clause-room g c =
    (_, one_more_read _ _ _ _ _ _ _ _ c.loop-buf.invariant.4 c.in-Failed.ensures.gives (search rules))
