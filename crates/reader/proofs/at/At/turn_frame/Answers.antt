-- `reader::at::At::turn_frame` meets its contract. Assumes nothing.
use Rattle.reader.proofs.Turning.{name-turn, number-turn}
use Rattle.reader.proofs.at.At.turn_frame.Goals as goal

pub returns-in-Result : goal.returns-in-Result
returns-in-Result c = rw c.in-Result.is c.turn_result.ensures

pub returns-in-Pattern : goal.returns-in-Pattern
returns-in-Pattern c = rw c.in-Pattern.is c.turn_pattern.ensures

pub returns-in-Conditions : goal.returns-in-Conditions
returns-in-Conditions c = rw c.in-Conditions.is c.turn_conditions.ensures

pub returns-in-Sentences : goal.returns-in-Sentences
returns-in-Sentences c = rw c.in-Sentences.is c.turn_sentences.ensures

pub returns-in-Name : goal.returns-in-Name
returns-in-Name c = rw c.in-Name.is (name-turn _ _ c.args.self.now.inside c.named.ensures)

pub returns-in-Number : goal.returns-in-Number
returns-in-Number c = rw c.in-Number.is (number-turn _ _ c.args.self.now.inside c.named-in-Number.ensures)

pub returns-in-Names : goal.returns-in-Names
returns-in-Names c = rw c.in-Names.is c.turn_names.ensures

pub returns-in-Code : goal.returns-in-Code
returns-in-Code c = rw c.in-Code.is c.turn_code.ensures

pub returns-in-Visibility : goal.returns-in-Visibility
returns-in-Visibility c = rw c.in-Visibility.is c.turn_visibility.ensures

pub returns-in-Counted : goal.returns-in-Counted
returns-in-Counted c = rw c.in-Counted.is c.turn_counted.ensures
