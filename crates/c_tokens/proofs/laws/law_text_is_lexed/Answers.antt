use Rattle.c_tokens.proofs.ByRules.{read_by_rules}
use Rattle.c_tokens.proofs.ToRules.{lexed_by_rules}
use Rattle.c_tokens.proofs.laws.law_text_is_lexed.Goals as goal

pub returns-clause-read : goal.returns-clause-read
returns-clause-read c = λ text tokens h. read_by_rules h

pub returns-clause-lexed : goal.returns-clause-lexed
returns-clause-lexed c = lexed_by_rules
