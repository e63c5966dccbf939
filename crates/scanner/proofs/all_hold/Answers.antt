use Rattle.std.proofs.Common.{refl, rules, ◌∙◌, ◌+◌, ◌*◌}
use Rattle.std.proofs.Math.Nat.{sub-zero}
use borrow.Author.Tests.{tests}
use Rattle.std.proofs.lemmas.Iterator.{YieldsList-from_range}
use Rattle.std.proofs.lemmas.Iterator.Search.{all_from_yields_List}
use Rattle.fields.specs.Header.{reading_at}
use Rattle.lists.specs.Filters.{head_words, test_words, count_word, item_of, filter_of}
use Rattle.lists.specs.Words.{words_of}
use Rattle.scanner.proofs.Scanning.{here, tests_range}
use Rattle.scanner.proofs.all_hold.Goals as goal

pub returns : goal.returns
unfolding filter_of item_of words_of
returns c =
    let r = reading_at c.args.header.now.present c.args.header.now.values in
    let n = count_word c.args.words.now in
    all_from_yields_List (λ j. here r c.args.words.now (head_words + test_words * j)) _ _ _ c.all.ensures.ran (YieldsList-from_range 0 _ n refl (sub-zero n)) (λ x b q k. search (rules, tests)) ∙
    tests_range r c.args.words.now head_words n
