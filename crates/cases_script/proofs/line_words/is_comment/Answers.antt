use Rattle.cases_script.proofs.LineWordsLaws.{comment-empty, comment-first}
use Rattle.cases_script.proofs.line_words.is_comment.Goals as goal

pub returns-then-line-eq0 : goal.returns-then-line-eq0
returns-then-line-eq0 c = comment-empty _ c.if-line-eq0.true

pub returns : goal.returns
returns c = comment-first c.args.line.now c.if-line-eq0.false
