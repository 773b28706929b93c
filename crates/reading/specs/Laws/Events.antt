-- The events of a tree, in the order of its tokens.
use Rattle.std.specs.Prelude.{List, ◌∷◌}
use Rattle.rules.specs.Grammar.Trees.{Operand, constant, access, parens, negated, Tail, no_more, with_op, Subscript, no_subscript, subscript, Joined, alone, joined, Action, block, labelled, if_then, decode, repeat, leave, restart, activate, stop, no_op, transfer, Members, end, also, next, Alternatives, counted, selected, Counted, counted_end, counted_more, Selected, select, otherwise, SelectedMore, selected_end, selected_more}
use Rattle.reading.specs.Events.{Event, reads, writes, activates, halts}

-- The events of the trees, in front of others.
unfoldable mutual
  pub operand_events : Operand → List Event → List Event
  operand_events (constant i) es = es
  operand_events (access i s b) es = reads i.word ∷ subscript_events s es
  operand_events (parens l o t r) es = operand_events o (tail_events t es)
  operand_events (negated i o) es = operand_events o es

  pub tail_events : Tail → List Event → List Event
  tail_events no_more es = es
  tail_events (with_op op i o t) es = operand_events o (tail_events t es)

  pub subscript_events : Subscript → List Event → List Event
  subscript_events no_subscript es = es
  subscript_events (subscript l o t r) es = operand_events o (tail_events t es)

unfoldable pub joined_events : Joined → List Event → List Event
joined_events alone es = es
joined_events (joined a n s b j) es = writes n.word ∷ subscript_events s (joined_events j es)

unfoldable mutual
  pub action_events : Action → List Event → List Event
  action_events (block b a m) es = action_events a (members_events m es)
  action_events (labelled n b a) es = action_events a es
  action_events (if_then i o t w a) es = operand_events o (tail_events t (action_events a es))
  action_events (decode i o t w b v) es = operand_events o (tail_events t (alternatives_events v es))
  action_events (repeat i a) es = action_events a es
  action_events (leave i n) es = es
  action_events (restart i n) es = es
  action_events (activate n l r) es = activates n.word ∷ es
  action_events (stop i l r) es = halts ∷ es
  action_events (no_op i l r) es = es
  action_events (transfer n s b j e o t) es = writes n.word ∷ subscript_events s (joined_events j (operand_events o (tail_events t es)))

  pub members_events : Members → List Event → List Event
  members_events (end i) es = es
  members_events (also i a m) es = action_events a (members_events m es)
  members_events (next i a m) es = action_events a (members_events m es)

  pub alternatives_events : Alternatives → List Event → List Event
  alternatives_events (counted a c) es = action_events a (counted_events c es)
  alternatives_events (selected s) es = selected_events s es

  pub counted_events : Counted → List Event → List Event
  counted_events (counted_end i) es = es
  counted_events (counted_more i a c) es = action_events a (counted_events c es)

  pub selected_events : Selected → List Event → List Event
  selected_events (select s b a m) es = action_events a (selected_more_events m es)
  selected_events (otherwise i b a e) es = action_events a es

  pub selected_more_events : SelectedMore → List Event → List Event
  selected_more_events (selected_end i) es = es
  selected_more_events (selected_more i s) es = selected_events s es
