-- `frame::digits::are_digits` meets its contract: it tests one character after the other, as the definition does. Assumes nothing.
use Rattle.std.proofs.Common.{refl, ◌∙◌, ◌&&◌, rules, tests}
use Rattle.std.specs.List.{list_all}
use Rattle.std.proofs.lemmas.Iterator.{YieldsList-from_slice}
use Rattle.std.proofs.lemmas.Iterator.Search.{all_from_yields_List}
use Rattle.std.proofs.lemmas.List.Recursion.{same_from_clauses}
use Rattle.spec.specs.Every.{every}
use Rattle.spec.specs.Lines.Frames.{is_digit}
use Rattle.frame.proofs.digits.are_digits.Goals as goal

pub returns : goal.returns
unfolding every
returns c =
    let line = c.args.line.now in
    all_from_yields_List is_digit _ _ _ c.all.ensures.ran (YieldsList-from_slice line cc) (λ x b q k. search (rules, tests))
    ∙ same_from_clauses (list_all is_digit) (every is_digit) (λ x rest. is_digit x && rest) refl (λ _ _. refl) (λ _ _. refl) line
