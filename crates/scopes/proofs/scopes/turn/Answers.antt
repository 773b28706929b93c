-- `scopes::scopes::turn` meets its contract.
use Rattle.scopes.specs.Laws.Frames.{to_read, to_close, to_open, to_push, turned_begin, turned_end, turned_semi, turned_next, turned_comma, turned_becomes, turned_other}
use Rattle.scopes.proofs.scopes.turn.Goals as goal

pub opened-requires : goal.opened-requires
opened-requires c = to_open c.requires

pub returns-then-kind-eq-BEGIN : goal.returns-then-kind-eq-BEGIN
returns-then-kind-eq-BEGIN c = turned_begin c.requires c.if-kind-eq-BEGIN.true c.opened.ensures

pub closed-requires : goal.closed-requires
closed-requires c = to_close c.requires c.if-kind-eq-END.true

pub returns-then-kind-eq-END : goal.returns-then-kind-eq-END
returns-then-kind-eq-END c = turned_end c.requires c.closed.ensures.1 c.if-kind-eq-END.true c.closed.ensures.0

pub returns-then-kind-eq-SEMI : goal.returns-then-kind-eq-SEMI
returns-then-kind-eq-SEMI c = turned_semi c.requires c.if-kind-eq-SEMI.true c.fresh.ensures

pub next_group-requires : goal.next_group-requires
next_group-requires c = to_read c.requires

pub returns-then-kind-eq-NEXT : goal.returns-then-kind-eq-NEXT
returns-then-kind-eq-NEXT c = turned_next c.requires c.if-kind-eq-NEXT.true c.next_group.ensures

pub surrounding-requires : goal.surrounding-requires
surrounding-requires c = to_read c.requires

pub returns-then-kind-eq-COMMA : goal.returns-then-kind-eq-COMMA
returns-then-kind-eq-COMMA c =
    turned_comma c.requires c.surrounding.ensures.1
    c.if-kind-eq-COMMA.true c.surrounding.ensures.0

pub push_label-above-requires : goal.push_label-above-requires
push_label-above-requires c = to_push c.requires

pub returns-then-kind-eq-BECOMES : goal.returns-then-kind-eq-BECOMES
returns-then-kind-eq-BECOMES c =
    turned_becomes c.requires c.if-kind-eq-BECOMES.true
    c.push_label-above.ensures c.push_label-above.auto.labels

pub returns : goal.returns
returns c =
    turned_other c.requires c.if-kind-eq-BEGIN.false c.if-kind-eq-END.false
    c.if-kind-eq-SEMI.false c.if-kind-eq-NEXT.false c.if-kind-eq-COMMA.false c.if-kind-eq-BECOMES.false
