-- When a row joins an old one.
use Rattle.std.proofs.Common.{◌≡◌, ℕ, ◌+◌, ◌-◌, ◌<◌, ◌≤◌, List, length, drop, sym, ◌∙◌, ap, subst, arith, get_or}
use Rattle.std.proofs.lemmas.List.{length-drop}
use Rattle.std.proofs.lemmas.Option.{get_or_from_slice_get, slice_get-get_or, slice_get_within}
use Rattle.js_session.specs.declared.command.Command.{Command}
use Rattle.js_session.specs.declared.row.Row.{Row}
use Rattle.js_relex.specs.Joined.{IsCommonEnd, IsMovedToken, JoiningState, Joins}

-- The index of the old row behind which so many commands are left.
old_index_is : (old new : List Command) (old_index left : ℕ) → old_index ≤ length old → left ≤ length new
    → drop (length new - left) new ≡ drop old_index old → old_index ≡ length old - left
old_index_is old new old_index left inside few same =
    let a = length-drop (length new - left) new in
    let b = length-drop old_index old in
    let c = ap length same in
    omega (arith, a, b, c, inside, few)

-- Behind an old row that is joined there are as many commands.
pub record JoinsOld (j : JoiningState) (common left : ℕ) (row d : Row) : Type 0 where
  pub few : left ≤ common
  pub moved : IsMovedToken j.from j.to (get_or j.rows (length j.old_commands - left) d).token row.token

pub joins_old : (j : JoiningState) (common left : ℕ) (row d : Row) → IsCommonEnd j.old_commands j.commands common
    → length j.rows ≡ length j.old_commands + 1 → left ≤ length j.commands
    → Joins j (length j.commands - left) row → JoinsOld j common left row d
joins_old j common left row d end long few h =
    let within = slice_get_within j.rows h.old_index h.old_row h.is_there in
    let inside : h.old_index ≤ length j.old_commands = omega (arith, within, long) in
    let index = old_index_is j.old_commands j.commands h.old_index left inside few h.commands_are in
    let counts =
    let a = length-drop (length j.commands - left) j.commands in
    let b = length-drop h.old_index j.old_commands in
    let c = ap length h.commands_are in
    let less : left ≤ length j.old_commands = omega (arith, a, b, c, inside, few) in less in
    record {
      few =
          end.no_more left counts few
          (h.commands_are ∙ ap (λ k. drop k j.old_commands) index);
      moved =
          subst (λ (r : Row). IsMovedToken j.from j.to r.token row.token)
          (sym
          (ap (λ k. get_or j.rows k d) (sym index)
          ∙ get_or_from_slice_get j.rows h.old_index h.old_row d h.is_there))
          h.moved;
    }

pub joins_here : (j : JoiningState) (common left : ℕ) (row d : Row) → IsCommonEnd j.old_commands j.commands common
    → length j.rows ≡ length j.old_commands + 1 → left ≤ common
    → IsMovedToken j.from j.to (get_or j.rows (length j.old_commands - left) d).token row.token
    → Joins j (length j.commands - left) row
joins_here j common left row d end long few moved = record {
  old_index = length j.old_commands - left;
  old_row = get_or j.rows (length j.old_commands - left) d;
  is_there = slice_get-get_or j.rows (length j.old_commands - left) d (omega (arith, long));
  commands_are = end.same left few;
  moved = moved;
}

-- The row that is moved joins, and only that one, as the parts of what is seen tell.
pub record JoinsAsMoved (j : JoiningState) (from to index : ℕ) (old new : Row) : Type 0 where
  pub here : IsMovedToken from to old.token new.token → Joins j index new
  pub back : Joins j index new → IsMovedToken from to old.token new.token

pub joins_as_moved : (v j : JoiningState) (common left : ℕ) (row d : Row) → v ≡ j
    → IsCommonEnd v.old_commands v.commands common → length v.rows ≡ length v.old_commands + 1
    → left ≤ length j.commands → left ≤ common
    → JoinsAsMoved j v.from v.to (length j.commands - left) (get_or v.rows (length v.old_commands - left) d) row
joins_as_moved v j common left row d same end long few less =
    subst
    (λ (x : JoiningState). left ≤ length x.commands
    → JoinsAsMoved x v.from v.to (length x.commands - left) (get_or v.rows (length v.old_commands - left) d) row) same
    (λ few.
    record {
      here = λ moved. joins_here v common left row d end long less moved;
      back = λ h. (joins_old v common left row d end long few h).moved;
    })
    few

pub joins_none : (v j : JoiningState) (common left : ℕ) (row : Row) → v ≡ j
    → IsCommonEnd v.old_commands v.commands common → length v.rows ≡ length v.old_commands + 1
    → left ≤ length j.commands → common < left → Joins j (length j.commands - left) row → ⊥
joins_none v j common left row same end long few more h =
    subst (λ (x : JoiningState). left ≤ length x.commands → Joins x (length x.commands - left) row → ⊥) same
    (λ few h.
    let less = (joins_old v common left row row end long few h).few in absurd (omega (arith, more, less)))
    few h
