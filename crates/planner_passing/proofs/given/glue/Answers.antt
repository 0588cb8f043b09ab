-- `planner_passing::given::glue` meets its contract: each arm is the case that its test found. Assumes nothing.
use Rattle.planner_passing.proofs.Laws.{glue-open, glue-periodic, glue-twisted, glue-past}
use Rattle.planner_passing.proofs.given.glue.Goals as goal

pub returns-then-code-lt256 : goal.returns-then-code-lt256
returns-then-code-lt256 c = glue-open _ c.if-code-lt256.true

pub returns-then-code-lt512 : goal.returns-then-code-lt512
returns-then-code-lt512 c = glue-periodic _ c.if-code-lt256.false c.if-code-lt512.true

pub returns-then-code-lt768 : goal.returns-then-code-lt768
returns-then-code-lt768 c = glue-twisted _ c.if-code-lt512.false c.if-code-lt768.true

pub returns : goal.returns
returns c = glue-past _ c.if-code-lt768.false
