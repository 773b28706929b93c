-- The kind of the first token of an action.
use Rattle.rules.specs.Text.Tokens.{Kind, Name, BEGIN, IF, DECODE, REPEAT, LEAVE, RESTART, STOP, NO-OP}
use Rattle.rules.specs.Grammar.Trees.{Action, block, labelled, if_then, decode, repeat, leave, restart, activate, stop, no_op, transfer}

-- the first token of an action, and what stands behind it
abbrev pub head_kind : Action → Kind
head_kind (block b a m) = BEGIN
head_kind (labelled n b a) = Name
head_kind (if_then i o t w a) = IF
head_kind (decode i o t w b v) = DECODE
head_kind (repeat i a) = REPEAT
head_kind (leave i n) = LEAVE
head_kind (restart i n) = RESTART
head_kind (activate n l r) = Name
head_kind (stop i l r) = STOP
head_kind (no_op i l r) = NO-OP
head_kind (transfer n s b j e o t) = Name
