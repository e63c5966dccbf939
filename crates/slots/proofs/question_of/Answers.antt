-- `slots::question_of` meets its contract: the question is that of the first filter that has tests left.
-- Assumes nothing.
use Rattle.std.proofs.Common.{ap, sym, ◌∙◌}
use Rattle.std.specs.Option.{option_copied}
use Rattle.lists.specs.Words.{test_list, words_of}
use Rattle.slots.specs.Asking.{four_words}
use Rattle.slots.proofs.Questions.{asked_of, question_found}
use Rattle.slots.proofs.question_of.Goals as goal

pub returns-in-Some : goal.returns-in-Some
unfolding four_words words_of
returns-in-Some c = ap test_list c.at.ensures ∙ ap (λ o. asked_of (option_copied o)) (sym c.in-Some.is) ∙ ap asked_of c.asking.ensures ∙ question_found _ _

pub returns-in-None : goal.returns-in-None
returns-in-None c =
    let none = ap (λ o. asked_of (option_copied o)) (sym c.in-None.is) ∙ ap asked_of c.asking.ensures ∙ question_found _ _ in
    rw (c.default.ensures.0, c.default.ensures.1.0, c.default.ensures.1.1.0, c.default.ensures.1.1.1) none
