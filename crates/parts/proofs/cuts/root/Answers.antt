use Rattle.std.proofs.Common.{[]}
use Rattle.parts.proofs.Roots.{not_empty, view}
use Rattle.parts.proofs.cuts.root.Goals as goal

pub returns-in_err-last-clause-value : goal.returns-in_err-last-clause-value
returns-in_err-last-clause-value c t h = absurd (not_empty [] t _ h c.in_err-last.ensures.cases)

pub returns-in_err-first-in-Binary-clause-value : goal.returns-in_err-first-in-Binary-clause-value
returns-in_err-first-in-Binary-clause-value c t h =
    let v = view t _ _ _ _ c.in_ok-last.ensures.cases.0 c.in-Binary.is h in
    absurd (c.in_err-first-in-Binary.ensures.value _ v.right v.joined)

pub returns-in_err-front-in-If-clause-value : goal.returns-in_err-front-in-If-clause-value
returns-in_err-front-in-If-clause-value c t h =
    let v = view t _ _ _ _ c.in_ok-last.ensures.cases.0 c.in-If.is h in
    absurd (c.in_err-front-in-If.ensures.value _ v.second v.joined)

pub returns-in_err-first-in-If-clause-value : goal.returns-in_err-first-in-If-clause-value
returns-in_err-first-in-If-clause-value c t h =
    let v = view t _ _ _ _ c.in_ok-last.ensures.cases.0 c.in-If.is h in
    let w = c.in_ok-front-in-If.ensures.value _ v.second v.joined in
    absurd (c.in_err-first-in-If.ensures.value _ v.first w.0)

pub returns-in_err-first-in-Let-clause-value : goal.returns-in_err-first-in-Let-clause-value
returns-in_err-first-in-Let-clause-value c t h =
    let v = view t _ _ _ _ c.in_ok-last.ensures.cases.0 c.in-Let.is h in
    absurd (c.in_err-first-in-Let.ensures.value _ v.right v.joined)

pub returns-in-Blank-clause-value : goal.returns-in-Blank-clause-value
returns-in-Blank-clause-value c t h = view t _ _ _ _ c.in_ok-last.ensures.cases.0 c.in-Blank.is h

pub returns-in-Number-clause-value : goal.returns-in-Number-clause-value
returns-in-Number-clause-value c t h = view t _ _ _ _ c.in_ok-last.ensures.cases.0 c.in-Number.is h

pub returns-in-Truth-clause-value : goal.returns-in-Truth-clause-value
returns-in-Truth-clause-value c t h = view t _ _ _ _ c.in_ok-last.ensures.cases.0 c.in-Truth.is h

pub returns-in-Name-clause-value : goal.returns-in-Name-clause-value
returns-in-Name-clause-value c t h = view t _ _ _ _ c.in_ok-last.ensures.cases.0 c.in-Name.is h

pub returns-in-Prefix-clause-value : goal.returns-in-Prefix-clause-value
returns-in-Prefix-clause-value c t h = view t _ _ _ _ c.in_ok-last.ensures.cases.0 c.in-Prefix.is h

pub returns-in_ok-first-in-Binary-clause-value : goal.returns-in_ok-first-in-Binary-clause-value
returns-in_ok-first-in-Binary-clause-value c t h =
    let v = view t _ _ _ _ c.in_ok-last.ensures.cases.0 c.in-Binary.is h in
    let w = c.in_ok-first-in-Binary.ensures.value _ v.right v.joined in
    record { left = v.left; right = v.right; is = v.is; front = w.0; back = w.1 }

pub returns-in_ok-first-in-If-clause-value : goal.returns-in_ok-first-in-If-clause-value
returns-in_ok-first-in-If-clause-value c t h =
    let v = view t _ _ _ _ c.in_ok-last.ensures.cases.0 c.in-If.is h in
    let w = c.in_ok-front-in-If.ensures.value _ v.second v.joined in
    let u = c.in_ok-first-in-If.ensures.value _ v.first w.0 in
    record { test = v.test; first = v.first; second = v.second; is = v.is; front = u.0; middle = u.1; back = w.1 }

pub returns-in_ok-first-in-Let-clause-value : goal.returns-in_ok-first-in-Let-clause-value
returns-in_ok-first-in-Let-clause-value c t h =
    let v = view t _ _ _ _ c.in_ok-last.ensures.cases.0 c.in-Let.is h in
    let w = c.in_ok-first-in-Let.ensures.value _ v.right v.joined in
    record { value = v.left; rest = v.right; place = _; is = v.is; front = w.0; back = w.1 }
