-- What a token of the lexer is, its bytes being a part of the text.
use Rattle.language.specs.Tokens.{Lexeme}
use Rattle.language.specs.declared.token.Token.{Token}

abbrev pub plain : Token → Lexeme
plain t = record { kind = t.kind; place = t.place; text = t.text.now }
